-- What each question to a step system answers.
-- An answer is the meaning of what is asked for, or else the first refusal in this order:
-- a string is no step, a step is masked, a string is no state, the step is not possible, the string
-- that would be answered is too long. Two steps are both asked for their shape, the first before
-- the second, before either is asked for its mask.
use Rattle.std.specs.Prelude.{ℕ, min, Bool, length, is_some, Some, None, Ok, Err, Option, Result, nat_le, if◌then◌else◌}
use Rattle.steps.specs.declared.label.Label.{Label}
use Rattle.steps.specs.declared.fault.SystemFault.{SystemFault}
use Rattle.steps.specs.declared.fault.SystemFault.TheVariants.{NoState, NoStep, Impossible, StateTooLong, StepTooLong}
use Rattle.steps.specs.declared.fault.MaskFault.{MaskFault}
use Rattle.steps.specs.declared.fault.MaskFault.TheVariants.{Masked, Inner}
use Rattle.steps.specs.Meaning.{Str, Transitions, Independence}
use Rattle.steps.specs.Laws.{state_limit, step_limit}

-- a refusal, if there is one, before what else would be answered
abbrev pub first : {A F : Type 0} → Option F → Result A F → Result A F
first (Some f) r = Err f
first None r = r

-- a length as a refusal tells it, in two bytes
abbrev pub told_length : ℕ → ℕ
told_length n = min n 65535

-- the refusal at a place, where there is one
abbrev pub refusal_at : (ℕ → SystemFault) → Option ℕ → Option MaskFault
refusal_at fault None = None
refusal_at fault (Some p) = Some (Inner (fault p))

module _ (t : Transitions) where
  -- refused as a state, refused as a step, hidden by a mask
  abbrev pub state_refusal : Str → Option MaskFault
  state_refusal s = refusal_at NoState (t.bad_state s)

  abbrev pub step_refusal : Str → Option MaskFault
  step_refusal x = refusal_at NoStep (t.bad_step x)

  abbrev pub hidden_refusal : Str → Option MaskFault
  hidden_refusal x = if t.hidden x then Some Masked else None

  abbrev pub state_answer : Str → Result (Unit {0}) MaskFault
  state_answer s = first (state_refusal s) (Ok tt)

  abbrev pub step_answer : Str → Result (Unit {0}) MaskFault
  step_answer x = first (step_refusal x) (first (hidden_refusal x) (Ok tt))

  abbrev pub label_answer : Str → Result Label MaskFault
  label_answer x = first (step_refusal x) (first (hidden_refusal x) (Ok (t.label x)))

-- a state that follows, where it fits the limit and a buffer of n bytes
abbrev pub fitting_state : Str → ℕ → Result Str MaskFault
fitting_state b n =
    if nat_le (length b) (min n state_limit) then Ok b
    else Err (Inner (StateTooLong (told_length (length b))))

abbrev pub move_answer : Result Str ℕ → ℕ → Result Str MaskFault
move_answer (Err p) n = Err (Inner (Impossible p))
move_answer (Ok b) n = fitting_state b n

-- the state after a by x, asked for in a buffer of n bytes
abbrev pub next_answer : Transitions → Str → Str → ℕ → Result Str MaskFault
next_answer t a x n =
    first (step_refusal t x)
    (first (hidden_refusal t x)
    (first (state_refusal t a)
    (move_answer (t.next a x) n)))

-- what comes before an answer on two steps
abbrev pub both_answer : {A : Type 0} → (t : Transitions) (x y : Str) → Result A MaskFault
    → Result A MaskFault
both_answer t x y r =
    first (step_refusal t x)
    (first (step_refusal t y)
    (first (hidden_refusal t x)
    (first (hidden_refusal t y) r)))

abbrev pub independent_answer : Transitions → Independence → Str → Str → Result Bool MaskFault
independent_answer t i x y = both_answer t x y (Ok (is_some (i.left x y)))

-- a step that is answered, where it fits the limit and a buffer of n bytes
abbrev pub fitting_step : Option Str → ℕ → Result (Option Str) MaskFault
fitting_step None n = Ok None
fitting_step (Some z) n =
    if nat_le (length z) (min n step_limit) then Ok (Some z)
    else Err (Inner (StepTooLong (told_length (length z))))

-- what is left of x after y, and the step of which z is left after x; none where there is none
abbrev pub left_answer : Transitions → Independence → Str → Str → ℕ → Result (Option Str) MaskFault
left_answer t i x y n = both_answer t x y (fitting_step (i.left x y) n)

abbrev pub back_answer : Transitions → Independence → Str → Str → ℕ → Result (Option Str) MaskFault
back_answer t i x z n = both_answer t x z (fitting_step (i.back x z) n)
