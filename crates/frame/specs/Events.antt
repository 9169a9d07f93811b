-- The events of a setup, as numbers.
use Rattle.std.specs.Prelude.{◌≡◌, ℕ, ◌+◌, ◌*◌, List, [], ◌∷◌, length, take, drop, Some, None, Option, nat_le, slice_index, if◌then◌else◌}
use Rattle.nets.specs.declared.event.Event.{Event}
use Rattle.frame.specs.declared.event.TheConstants.{EVENT_SIZE}

-- the number that bytes spell behind a number, and on their own: the greatest place comes first
abbrev pub number_behind : ℕ → List ℕ → ℕ
number_behind n [] = n
number_behind n (b ∷ bs) = number_behind (256 * n + b) bs

abbrev pub big_endian : List ℕ → ℕ
big_endian bs = number_behind 0 bs

-- an event: its action, and the sets before and after it, of 8 bytes each
abbrev pub event_of : List ℕ → Event
event_of bs = record {
  action = slice_index bs 0;
  before = big_endian (take 8 (drop 1 bs));
  after = big_endian (take 8 (drop 9 bs));
}

-- the event at an index of those that stand one behind the other
abbrev pub event_answer : List ℕ → ℕ → Option Event
event_answer events i =
    if nat_le (EVENT_SIZE * i + EVENT_SIZE) (length events)
    then Some (event_of (take EVENT_SIZE (drop (EVENT_SIZE * i) events)))
    else None

-- The first of events that stand one behind the other, and what stands behind it; or none, and all
-- bytes are left.
abbrev pub NextEvent : List ℕ → Option Event → List ℕ → Type 0
NextEvent events None left = (event_answer events 0 ≡ None) × (left ≡ events)
NextEvent events (Some e) left = (event_answer events 0 ≡ Some e) × (left ≡ drop EVENT_SIZE events)
