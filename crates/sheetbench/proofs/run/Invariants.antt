use Rattle.std.proofs.Common.{◌≡◌, length}
use Rattle.sheetbench.proofs.run.Given as goal

abbrev pub invariant-loop : goal.invariant-loop
invariant-loop g l = (length l.chunk ≡ 32768) × (length l.out ≡ 32768)
