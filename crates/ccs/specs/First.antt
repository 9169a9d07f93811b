-- The least number that something holds of.
use Rattle.std.specs.Prelude.{ℕ, ◌<◌, Some, None, Option}

pub record First (P : ℕ → Type 0) (k : ℕ) : Type 0 where
  pub holds : P k
  pub least : (j : ℕ) → j < k → P j → ⊥

-- the least, or that there is none
abbrev pub FirstIf : (ℕ → Type 0) → Option ℕ → Type 0
FirstIf P (Some k) = First P k
FirstIf P None = (j : ℕ) → P j → ⊥
