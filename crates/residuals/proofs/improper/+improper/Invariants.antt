use Rattle.std.proofs.Common.{length}
use Rattle.residuals.proofs.improper.+improper.Given as goal

abbrev pub decreases-improper : goal.decreases-improper
decreases-improper l = length l.step.now
