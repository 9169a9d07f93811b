use Rattle.std.proofs.Common.{ap, ◌∙◌}
use Rattle.residuals.proofs.Labels.{labelled}
use Rattle.residuals.proofs.label.label.Goals as goal

pub returns : goal.returns
returns c = ap (λ a. record { action = a }) c.shown_action.ensures ∙ labelled c.args.step.now c.requires
