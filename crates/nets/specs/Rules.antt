-- The rules by which a net moves, and which of its steps are independent, said of strings.
use Rattle.std.specs.Prelude.{◌≡◌, ℕ, ◌-◌, ◌/◌, ◌%◌, ◌^◌, ◌<◌, ◌↔◌, List, [], ◌∷◌, length, Some, All, slice_get, slice_index}
use Rattle.steps.specs.Meaning.{Str}
use Rattle.steps.specs.Beginning.{LongestBeginning}
use Rattle.nets.specs.declared.event.Event.{Event}
use Rattle.nets.specs.Marking.{Holds}
use Rattle.nets.specs.Firing.{Fires, Apart}

abbrev pub AreBytes : Str → Type 0
AreBytes s = All (λ b. b < 256) s

-- the states: eight bytes
pub record IsMarking (s : Str) : Type 0 where
  pub eight : length s ≡ 8
  pub bytes : AreBytes s

-- The string spells the marking, its highest conditions first: condition c is bit c % 8 of the byte
-- at 7 - c / 8.
pub record Spells (s : Str) (m : ℕ) : Type 0 where
  pub state : IsMarking s
  pub conditions_hold : (c : ℕ) → c < 64 → Holds m c ↔ Holds (slice_index s (7 - c / 8)) (c % 8)
  pub marking : m < 2 ^ 64

-- the string is one byte, the event's number among those of the net
pub record Names (es : List Event) (x : Str) (e : Event) : Type 0 where
  pub number : ℕ
  pub one_byte : x ≡ number ∷ []
  pub there : slice_get es number ≡ Some e

-- the steps: those that name an event of the net
abbrev pub IsEvent : List Event → Str → Type 0
IsEvent es x = (e : Event) × Names es x e

-- The step x names an event of the net, and from the marking that a spells this leads to the one
-- that b spells.
pub record NetGoes (es : List Event) (a x b : Str) : Type 0 where
  pub event : Event
  pub before : ℕ
  pub after : ℕ
  pub step : Names es x event
  pub start : Spells a before
  pub fires : Fires event before after
  pub end : Spells b after

-- Of the step x, after the step y, z is left: x itself, where no condition is at both events.
pub record NetLeaves (es : List Event) (x y z : Str) : Type 0 where
  pub first : Event
  pub second : Event
  pub step : Names es x first
  pub other : Names es y second
  pub nothing_shared : Apart first second
  pub same : z ≡ x

-- The step x is possible in no marking that a spells, though one is a state and the other a step.
pub record Stuck (es : List Event) (a x : Str) : Type 0 where
  pub state : IsMarking a
  pub step : IsEvent es x
  pub nowhere : (b : Str) → NetGoes es a x b → ⊥

-- Of a string that is no step, the longest beginning that begins one is told; of any string, where
-- the net has no event, the start.
pub data StepPlace (es : List Event) (x : Str) : ℕ → Type 0 where
  no_event : es ≡ [] → StepPlace es x 0
  unfit : {p : ℕ} → LongestBeginning (IsEvent es) x p → StepPlace es x p
