use Rattle.std.proofs.Common.{◌≡◌, Some, None, arith, rules}
use lib.Bits.{bit_xor}
use Rattle.nets.specs.Firing.{fire}
use Rattle.nets.specs.Laws.FiringLemmas.{fires_rule}
use Rattle.nets.proofs.event.Event.fire.Goals as goal

pub returns-then-marking-self-eq0-clause-rule : goal.returns-then-marking-self-eq0-clause-rule
returns-then-marking-self-eq0-clause-rule c =
    let same : Some (bit_xor c.args.marking c.conditions.result) ≡ fire c.args.self c.args.marking = search rules in
    fires_rule c.args.self c.args.marking (omega arith) (omega arith) (omega arith) same

pub returns-else-marking-self-clause-rule : goal.returns-else-marking-self-clause-rule
returns-else-marking-self-clause-rule c =
    let same : None ≡ fire c.args.self c.args.marking = search rules in
    fires_rule c.args.self c.args.marking (omega arith) (omega arith) (omega arith) same
