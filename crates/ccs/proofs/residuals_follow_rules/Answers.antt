use Rattle.ccs.proofs.System.{left_by_rules, back_undoes_left}
use Rattle.ccs.proofs.residuals_follow_rules.Goals as goal

pub returns : goal.returns
returns c = record { left = left_by_rules; back = back_undoes_left }
