use Rattle.std.proofs.Common.{◌≡◌, take}
use Rattle.byte_strings.specs.Buffer.{over}
use Rattle.hexadecimal.specs.Hex.{hex}
use Rattle.hexadecimal.proofs.write.Given as goal

abbrev pub invariant-loop-i : goal.invariant-loop-i
invariant-loop-i l = l.out ≡ over (hex (take l.i l.bytes)) l.initial.out
