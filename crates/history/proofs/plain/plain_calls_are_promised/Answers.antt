use Rattle.history.proofs.PlainCalls.{plain_promised, plain_told}
use Rattle.history.proofs.plain.plain_calls_are_promised.Goals as goal

pub returns : goal.returns
returns c = record { promise = plain_promised; told = plain_told }
