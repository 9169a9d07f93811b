-- Neighbours exchanged, as strings, or the refusal of a step that is too long.
use Rattle.std.specs.Prelude.{Some, None, Ok, Err, Option, Result}
use Rattle.steps.specs.Meaning.{Str, Independence}
use Rattle.steps.specs.Laws.{step_limit}
use Rattle.steps.specs.Answers.{fitting_step}
use Rattle.steps.specs.declared.fault.MaskFault.{MaskFault}
use Rattle.joins.specs.declared.exchange.Neighbours.{Neighbours}

-- two steps, one behind the other
pub record Pair : Type 0 where
  pub first : Str
  pub second : Str

abbrev pub neighbours_answer : Result (Option Neighbours) MaskFault → Result (Option Pair) MaskFault
neighbours_answer (Ok (Some n)) = Ok (Some (record { first = n.first; second = n.second }))
neighbours_answer (Ok None) = Ok None
neighbours_answer (Err f) = Err f

-- y, and what is left of the other behind it
abbrev pub behind : Str → Option Str → Option Pair
behind y (Some x') = Some (record { first = y; second = x' })
behind y None = None

abbrev pub turned : Independence → Str → Result (Option Str) MaskFault → Result (Option Pair) MaskFault
turned i x (Ok (Some y)) = Ok (behind y (i.left x y))
turned i x (Ok None) = Ok None
turned i x (Err f) = Err f

-- x and then z: first the step y of which z is left after x, then what is left of x after y; y may be too long to be held
abbrev pub exchange_answer : Independence → Str → Str → Result (Option Pair) MaskFault
exchange_answer i x z = turned i x (fitting_step (i.back x z) step_limit)
