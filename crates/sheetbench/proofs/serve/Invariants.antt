use Rattle.std.proofs.Common.{◌≤◌, length}
use Rattle.sheetbench.proofs.serve.Given as goal

abbrev pub invariant-loop-byte : goal.invariant-loop-byte
invariant-loop-byte g l = l.used ≤ length l.out
