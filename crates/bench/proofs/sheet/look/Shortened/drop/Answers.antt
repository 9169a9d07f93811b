use Rattle.bench.proofs.Looking.{same_head}
use Rattle.bench.proofs.sheet.look.Shortened.drop.Goals as goal

pub returns : goal.returns
returns c = same_head _ _ _ _
