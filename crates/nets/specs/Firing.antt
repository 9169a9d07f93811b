-- The firing rule, and which events are independent: each as a relation, and as it is computed on
-- the bits of markings.
use Rattle.std.specs.Prelude.{ℕ, ◌^◌, ◌<◌, Bool, ◌&&◌, ◌⊎◌, ◌↔◌, Some, None, Option, ◌==◌, bit_and, bit_or, bit_xor, if◌then◌else◌}
use Rattle.nets.specs.declared.event.Event.{Event}
use Rattle.nets.specs.Marking.{Holds}

-- In the marking m the event is possible, and leads to the marking m'.
pub record Fires (e : Event) (m m' : ℕ) : Type 0 where
  -- what is before the event holds, and nothing that is after it does
  pub ready : (c : ℕ) → c < 64 → Holds e.before c → Holds m c
  pub free : (c : ℕ) → c < 64 → Holds e.after c → Holds m c → ⊥
  -- then what is after it holds, what is before it does not, and all else is as it was
  pub follows : (c : ℕ) → c < 64
      → Holds m' c ↔ (Holds e.after c ⊎ (Holds m c × (Holds e.before c → ⊥)))
  -- and it is a marking again
  pub marking : m' < 2 ^ 64

-- a condition is at an event: before or after it
abbrev pub At : Event → ℕ → Type 0
At e c = Holds e.before c ⊎ Holds e.after c

-- no condition is at both events
abbrev pub Apart : Event → Event → Type 0
Apart e f = (c : ℕ) → c < 64 → At e c → At f c → ⊥

-- the conditions at an event, as bits
abbrev pub conditions : Event → ℕ
conditions e = bit_or e.before e.after

-- all that is before the event holds, and nothing that is after it
abbrev pub is_ready : Event → ℕ → Bool
is_ready e m = bit_and m e.before == e.before && bit_and m e.after == 0

-- every condition at the event changes over
abbrev pub marking_after : Event → ℕ → ℕ
marking_after e m = bit_xor m (conditions e)

-- the marking that follows by the event, if it is possible
abbrev pub fire : Event → ℕ → Option ℕ
fire e m = if is_ready e m then Some (marking_after e m) else None

-- no common bit
abbrev pub apart_from : Event → Event → Bool
apart_from e f = bit_and (conditions e) (conditions f) == 0
