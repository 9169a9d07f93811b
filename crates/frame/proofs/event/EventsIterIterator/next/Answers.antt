use Rattle.frame.proofs.Numbers.{event_taken}
use Rattle.frame.proofs.event.EventsIterIterator.next.Goals as goal

pub returns-clause-steps : goal.returns-clause-steps
returns-clause-steps c =
    let first = c.in_ok-before.ensures.cases in
    let second = c.in_ok-after.ensures.cases in
    event_taken _ _ _ _ _ _ _ _ _ c.in_ok-action.ensures.cases.0
    first.0 first.1 first.2 second.0 second.1 second.2 c.from_be_bytes.ensures c.from_be_bytes-2.ensures
