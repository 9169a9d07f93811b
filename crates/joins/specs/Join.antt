-- What a join adds to a list, as the theory of joins has it.
use Rattle.std.specs.Prelude.{ℕ, List, Ok, Err, Result}
use Rattle.steps.specs.Meaning.{Str}
use Rattle.runs.specs.Join.{Joined}

-- the steps that a join adds, or the number of the step that clashes
abbrev pub added_of : Result Joined ℕ → Result (List Str) ℕ
added_of (Ok j) = Ok j.added
added_of (Err n) = Err n
