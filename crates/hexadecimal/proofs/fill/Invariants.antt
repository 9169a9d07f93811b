use Rattle.std.proofs.Common.{◌≡◌, ◌++◌, take, drop}
use Rattle.hexadecimal.specs.Hex.{sound_bytes}
use Rattle.hexadecimal.proofs.Text.{of_pairs}
use Rattle.hexadecimal.proofs.fill.Given as goal

abbrev pub invariant-loop-n : goal.invariant-loop-n
invariant-loop-n l = record {
  callable : (goal.iterator-loop-n).can_next l.bytes;
  front : sound_bytes l.line ≡ take l.n l.out ++ of_pairs l.bytes.iter.rest.now;
  back : drop l.n l.out ≡ drop l.n l.initial.out;
}
