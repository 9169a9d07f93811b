-- Two steps are independent exactly if they are different steps, and a step stays itself after
-- another.
use Rattle.std.specs.Prelude.{ℕ, Bool, not, Some, None, Ok, Err, Option, Result, ◌==◌, if◌then◌else◌}
use Rattle.steps.specs.Meaning.{Str, Independence}
use Rattle.toys.specs.Sum.{read_byte}

-- the relation that holds between different steps
abbrev pub distinct : ℕ → ℕ → Bool
distinct a b = not (a == b)

-- the step x, where two bytes were read that differ
abbrev pub step_if_distinct : Str → Result ℕ ℕ → Result ℕ ℕ → Option Str
step_if_distinct x (Ok a) (Ok b) = if a == b then None else Some x
step_if_distinct x (Ok a) (Err p) = None
step_if_distinct x (Err p) r = None

abbrev pub commuting_independence : Independence
commuting_independence =
    record {
      left = λ x y. step_if_distinct x (read_byte x) (read_byte y);
      back = λ x z. step_if_distinct z (read_byte x) (read_byte z);
    }
