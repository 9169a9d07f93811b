use Rattle.runs.proofs.Exchange.{keep_runs, equivalence, between_others, same_length, preorder, antisymmetric, swaps}
use Rattle.runs.proofs.exchanges_keep_runs.Goals as goal

pub returns : goal.returns
returns c = record { runs = keep_runs; equivalence = equivalence; others = between_others; length = same_length; extending = preorder; alike = antisymmetric; swaps = swaps }
