use Rattle.std.proofs.Common.{◌+◌, ◌*◌, length}
use Rattle.byte_strings.specs.Lent.{part_view}
use Rattle.residuals.proofs.Onto.{size}
use Rattle.residuals.proofs.origin.+origin.Given as goal

abbrev pub decreases-origin : goal.decreases-origin
decreases-origin l = 2 * (length l.x.now + length l.z.now)

abbrev pub decreases-before : goal.decreases-before
decreases-before l = 2 * (size (part_view l.done) + length l.part.now) + 1
