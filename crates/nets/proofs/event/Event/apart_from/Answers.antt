use Rattle.std.proofs.Common.{◌≡◌, eqb, arith, rules}
use lib.Bits.{bit_and}
use Rattle.nets.specs.Firing.{apart_from}
use Rattle.nets.specs.Laws.FiringLemmas.{apart_rule}
use Rattle.nets.proofs.event.Event.apart_from.Goals as goal

pub returns-clause-rule : goal.returns-clause-rule
returns-clause-rule c =
    let same : eqb (bit_and c.conditions.result c.conditions-2.result) 0
    ≡ apart_from c.args.self c.args.other = search rules in
    apart_rule c.args.self c.args.other (omega arith) (omega arith) same
