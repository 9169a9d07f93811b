-- How far a string begins one of a kind.
use Rattle.std.specs.Prelude.{ℕ, ◌<◌, ◌≤◌, ◌++◌, length, take}
use Rattle.steps.specs.Meaning.{Str}

-- The first p bytes of s begin a string of the kind, and no more of its bytes do.
pub record LongestBeginning (Is : Str → Type 0) (s : Str) (p : ℕ) : Type 0 where
  pub within : p ≤ length s
  pub begins : (r : Str) × Is (take p s ++ r)
  pub longest : (q : ℕ) (r : Str) → p < q → q ≤ length s → Is (take q s ++ r) → ⊥
