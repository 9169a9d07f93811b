-- No two steps are independent, so nothing is ever left of one after another.
use Rattle.std.specs.Prelude.{ℕ, Bool, false, None}
use Rattle.steps.specs.Meaning.{Independence}

-- the relation that holds nowhere
abbrev pub never : ℕ → ℕ → Bool
never a b = false

abbrev pub sequential_independence : Independence
sequential_independence = record { left = λ x y. None; back = λ x z. None }
