use Rattle.runs.proofs.CarryExchange.{carried_alike, cancels}
use Rattle.runs.proofs.exchanges_keep_carries.Goals as goal

pub returns : goal.returns
returns c = record { alike = carried_alike; cancels = cancels }
