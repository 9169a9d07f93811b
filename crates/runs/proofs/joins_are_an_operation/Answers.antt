use Rattle.runs.proofs.JoinAlgebra.{with_itself, adds_nothing, joined_alike, with_third}
use Rattle.runs.proofs.joins_are_an_operation.Goals as goal

pub returns : goal.returns
returns c = record { itself = with_itself; nothing = adds_nothing; alike = joined_alike; third = with_third }
