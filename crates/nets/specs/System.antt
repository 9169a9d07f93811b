-- A net as a step system: markings are its states, and the numbers of its events its steps.
use Rattle.std.specs.Prelude.{ℕ, false, List, [], ◌∷◌, is_ok, Some, None, Ok, Err, Option, Result, if◌then◌else◌}
use Rattle.std.specs.List.{slice_get}
use Rattle.std.specs.Result.{result_err}
use Rattle.steps.specs.declared.fault.MaskFault.{MaskFault}
use Rattle.steps.specs.declared.fault.MaskFault.TheVariants.{Inner}
use Rattle.steps.specs.declared.fault.SystemFault.TheVariants.{NoState, NoStep}
use Rattle.steps.specs.declared.label.Label.{Label}
use Rattle.steps.specs.Meaning.{Str, Transitions, Independence}
use Rattle.nets.specs.declared.event.Event.{Event}
use Rattle.nets.specs.Marking.{bytes_of, read_marking}
use Rattle.nets.specs.Firing.{fire, apart_from}

-- the event that a number stands for, if nothing follows the number; else the place that does not
-- fit
abbrev pub lone_event : Option Event → Str → Result Event ℕ
lone_event None x = Err 0
lone_event (Some e) [] = Ok e
lone_event (Some e) (b ∷ x) = Err 1

-- the event that a string names by its number, or the place where it names none
abbrev pub read_event : List Event → Str → Result Event ℕ
read_event es [] = Err 0
read_event es (k ∷ x) = lone_event (slice_get es k) x

-- what the event shows
abbrev pub label_of : Result Event ℕ → Label
label_of (Ok e) = record { action = e.action }
label_of (Err p) = record { action = 0 }

-- the marking that follows, as bytes, or that the event does not fit
abbrev pub spelled_state : Option ℕ → Result Str ℕ
spelled_state (Some m) = Ok (bytes_of m)
spelled_state None = Err 0

abbrev pub next_state : Result Event ℕ → Result ℕ ℕ → Result Str ℕ
next_state (Ok e) (Ok m) = spelled_state (fire e m)
next_state (Ok e) (Err p) = Err 0
next_state (Err p) r = Err 0

-- an event stays itself after an independent one
abbrev pub rest_of : Str → Result Event ℕ → Result Event ℕ → Option Str
rest_of x (Ok e) (Ok f) = if apart_from e f then Some x else None
rest_of x (Ok e) (Err p) = None
rest_of x (Err p) r = None

abbrev pub net_transitions : List Event → Transitions
net_transitions es =
    record {
      state = λ s. is_ok (read_marking s);
      step = λ x. is_ok (read_event es x);
      label = λ x. label_of (read_event es x);
      next = λ a x. next_state (read_event es x) (read_marking a);
      bad_state = λ s. result_err (read_marking s);
      bad_step = λ x. result_err (read_event es x);
      hidden = λ x. false;
    }

abbrev pub net_independence : List Event → Independence
net_independence es =
    record {
      left = λ x y. rest_of x (read_event es x) (read_event es y);
      back = λ x z. rest_of z (read_event es x) (read_event es z);
    }

-- what reading a state, and reading a step, answers
abbrev pub marking_answer : Result ℕ ℕ → Result ℕ MaskFault
marking_answer (Ok m) = Ok m
marking_answer (Err p) = Err (Inner (NoState p))

abbrev pub event_answer : Result Event ℕ → Result Event MaskFault
event_answer (Ok e) = Ok e
event_answer (Err p) = Err (Inner (NoStep p))
