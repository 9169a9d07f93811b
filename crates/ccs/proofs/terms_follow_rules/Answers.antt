use Rattle.ccs.proofs.System.{next_by_rules, misfit_place, labels_shown}
use Rattle.ccs.proofs.terms_follow_rules.Goals as goal

pub returns : goal.returns
returns c = record { next = next_by_rules; misfits = misfit_place; labels = labels_shown }
