-- Steps walked one by one: the state that they lead to, or the step that does not follow and why.
use Rattle.std.specs.Prelude.{ℕ, ◌+◌, List, [], ◌∷◌, Ok, Err, Result}
use Rattle.steps.specs.Meaning.{Str, Transitions}
use Rattle.steps.specs.Answers.{next_answer}
use Rattle.bench.specs.declared.state.Halt.{Halt}

-- the first of the steps is numbered k
abbrev pub walked : Transitions → Str → List Str → ℕ → Result Str Halt
walked t a [] k = Ok a
walked t a (x ∷ xs) k = elim (next_answer t a x 256) [ Ok b ↦ walked t b xs (k + 1) | Err f ↦ Err (record { number = k; fault = f }) ]
