-- Which events a net takes, and what is wrong with any other.
use Rattle.std.specs.Prelude.{ℕ, ◌^◌, Bool, true, not, ◌&&◌, List, [], ◌∷◌, ◌++◌, length, is_some, Some, None, Ok, Err, Option, Result, ◌==◌, bit_and, nat_lt, if◌then◌else◌}
use Rattle.actions.specs.Action.{is_action}
use Rattle.nets.specs.declared.net.TheConstants.{EVENT_LIMIT}
use Rattle.nets.specs.declared.event.Event.{Event}
use Rattle.nets.specs.declared.event.EventFault.{EventFault}
use Rattle.nets.specs.declared.event.EventFault.TheVariants.{Full, NoAction, EmptySet, SharedCondition}

-- some bit is set before the event, and some after it
abbrev pub has_conditions : Event → Bool
has_conditions e = not (e.before == 0) && not (e.after == 0)

-- no bit is set both before and after it
abbrev pub shares_none : Event → Bool
shares_none e = bit_and e.before e.after == 0

-- what is wrong with an event, if anything is: the first of these
abbrev pub event_fault : Event → Option EventFault
event_fault e =
    if is_action e.action
    then (if has_conditions e
    then (if shares_none e then None else Some SharedCondition)
    else Some EmptySet)
    else Some NoAction

-- no bit beyond the sixty-fourth
abbrev pub is_narrow : Event → Bool
is_narrow e = nat_lt e.before (2 ^ 64) && nat_lt e.after (2 ^ 64)

-- the events that a net may have
abbrev pub sound_event : Event → Bool
sound_event e = is_narrow e && not (is_some (event_fault e))

abbrev pub all_sound : List Event → Bool
all_sound [] = true
all_sound (e ∷ es) = sound_event e && all_sound es

-- the most events that a net has
abbrev pub event_limit : ℕ
event_limit = EVENT_LIMIT

-- why a net of these events does not take one more, if so
abbrev pub add_fault : List Event → Event → Option EventFault
add_fault es e = if nat_lt (length es) event_limit then event_fault e else Some Full

-- what adding an event answers, and the events afterwards
abbrev pub add_answer : Option EventFault → Result (Unit {0}) EventFault
add_answer None = Ok tt
add_answer (Some f) = Err f

abbrev pub events_after : Option EventFault → List Event → Event → List Event
events_after None es e = es ++ e ∷ []
events_after (Some f) es e = es
