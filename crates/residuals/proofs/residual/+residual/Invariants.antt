use Rattle.std.proofs.Common.{◌+◌, ◌*◌, length}
use Rattle.residuals.proofs.residual.+residual.Given as goal

abbrev pub decreases-residual : goal.decreases-residual
decreases-residual l = 2 * length l.x.now

abbrev pub decreases-beside : goal.decreases-beside
decreases-beside l = 2 * length l.part.now + 1
