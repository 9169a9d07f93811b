use Rattle.std.proofs.Common.{rules, arith}
use Rattle.nets.specs.declared.event.EventFault.TheVariants.{NoAction, EmptySet, SharedCondition}
use Rattle.nets.proofs.Sets.{checked_proper, checked_faulty}
use Rattle.nets.proofs.event.Event.check.Goals as goal

pub returns-then-not-is_action-clause-faulty : goal.returns-then-not-is_action-clause-faulty
returns-then-not-is_action-clause-faulty c =
    checked_faulty c.args.self (omega arith) (omega arith) NoAction (search rules)

pub returns-then-self-eq0-clause-faulty : goal.returns-then-self-eq0-clause-faulty
returns-then-self-eq0-clause-faulty c = checked_faulty c.args.self (omega arith) (omega arith) EmptySet (search rules)

pub returns-then-self-ne0-clause-faulty : goal.returns-then-self-ne0-clause-faulty
returns-then-self-ne0-clause-faulty c =
    checked_faulty c.args.self (omega arith) (omega arith) SharedCondition (search rules)

pub returns-clause-proper : goal.returns-clause-proper
returns-clause-proper c = checked_proper c.args.self (omega arith) (omega arith) (search rules)
