-- Bytes that add up: a state is a byte, a step is a byte, and a step leads to their sum, counted
-- round past 255.
use Rattle.std.specs.Prelude.{ℕ, ◌+◌, ◌%◌, Bool, false, [], ◌∷◌, is_ok, Some, None, Ok, Err, Option, Result, nat_lt, if◌then◌else◌}
use Rattle.std.specs.Result.{result_err}
use Rattle.steps.specs.declared.fault.MaskFault.{MaskFault}
use Rattle.steps.specs.declared.fault.MaskFault.TheVariants.{Inner}
use Rattle.steps.specs.declared.fault.SystemFault.TheVariants.{NoState, NoStep}
use Rattle.steps.specs.Meaning.{Str, Transitions, Independence}

-- the byte that a string is, or the place of the first number that does not fit
abbrev pub read_byte : Str → Result ℕ ℕ
read_byte [] = Err 0
read_byte (b ∷ []) = if nat_lt b 256 then Ok b else Err 0
read_byte (b ∷ c ∷ s) = Err 1

-- the state after a step: every step is possible in every state
abbrev pub sum_state : Result ℕ ℕ → Result ℕ ℕ → Result Str ℕ
sum_state (Ok a) (Ok x) = Ok ((a + x) % 256 ∷ [])
sum_state (Ok a) (Err p) = Err 0
sum_state (Err p) r = Err 0

-- every step is silent
abbrev pub sum_transitions : Transitions
sum_transitions =
    record {
      state = λ s. is_ok (read_byte s);
      step = λ x. is_ok (read_byte x);
      label = λ x. record { action = 0 };
      next = λ a x. sum_state (read_byte a) (read_byte x);
      bad_state = λ s. result_err (read_byte s);
      bad_step = λ x. result_err (read_byte x);
      hidden = λ x. false;
    }

-- the byte that was read as a state, and as a step
abbrev pub state_byte : Result ℕ ℕ → Result ℕ MaskFault
state_byte (Ok b) = Ok b
state_byte (Err p) = Err (Inner (NoState p))

abbrev pub step_byte : Result ℕ ℕ → Result ℕ MaskFault
step_byte (Ok b) = Ok b
step_byte (Err p) = Err (Inner (NoStep p))

-- Two steps are independent where their bytes are apart, and a step stays itself after another.
module _ (apart : ℕ → ℕ → Bool) where
  -- a step, where two bytes were read that are apart
  abbrev pub step_if_apart : Str → Result ℕ ℕ → Result ℕ ℕ → Option Str
  step_if_apart x (Ok a) (Ok b) = if apart a b then Some x else None
  step_if_apart x (Ok a) (Err p) = None
  step_if_apart x (Err p) r = None

  abbrev pub sum_independence : Independence
  sum_independence =
      record {
        left = λ x y. step_if_apart x (read_byte x) (read_byte y);
        back = λ x z. step_if_apart z (read_byte x) (read_byte z);
      }
