-- What a step system means, on byte strings of any length.
use Rattle.std.specs.Prelude.{ℕ, Bool, Option, Result}
pub use Rattle.byte_strings.specs.Buffer.{Str}
use Rattle.steps.specs.declared.label.Label.{Label}

-- States, steps, labels and what follows; and what the refusals of a question tell.
pub record Transitions : Type 0 where
  -- which strings are states, and which are steps
  pub state : Str → Bool
  pub step : Str → Bool
  -- what a step shows
  pub label : Str → Label
  -- the state that follows a state by a step; else the place in the step that does not fit
  pub next : Str → Str → Result Str ℕ
  -- the first byte that fits no state within the limit, if any
  pub bad_state : Str → Option ℕ
  -- the first byte that fits no step within the limit, or the first improper part, if any
  pub bad_step : Str → Option ℕ
  -- whether a mask hides the string, which would be a step without it
  pub hidden : Str → Bool

-- Independence of steps: what one becomes behind another.
pub record Independence : Type 0 where
  -- what the first becomes behind the second; none where they are dependent
  pub left : Str → Str → Option Str
  -- the step independent of the first of which the second is left after it
  pub back : Str → Str → Option Str
