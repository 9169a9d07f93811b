use Rattle.std.proofs.Common.{length}
use Rattle.residuals.proofs.label.+shown_action.Given as goal

abbrev pub decreases-shown_action : goal.decreases-shown_action
decreases-shown_action l = length l.step.now
