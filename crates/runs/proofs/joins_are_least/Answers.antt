use Rattle.runs.proofs.Least.{least}
use Rattle.runs.proofs.Conflict.{conflict, conflict_place}
use Rattle.runs.proofs.Opposite.{opposite, opposite_end}
use Rattle.runs.proofs.joins_are_least.Goals as goal

pub returns : goal.returns
returns c = record { least = least; conflict = conflict; place = conflict_place; opposite = opposite; end = opposite_end }
