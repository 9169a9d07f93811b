-- The least list of steps that extends two others, and the order in which it takes them.
use Rattle.std.specs.Prelude.{ℕ, List, ◌++◌, take}
use Rattle.steps.specs.Meaning.{Str, Independence}
use Rattle.runs.specs.Exchange.{Extends}

-- zs extends both xs and ys, and whatever extends both extends it
pub record Merged (i : Independence) (xs ys zs : List Str) : Type 0 where
  pub extends_first : Extends i zs xs
  pub extends_second : Extends i zs ys
  pub least : (r : List Str) → Extends i r xs → Extends i r ys → Extends i r zs

-- behind xs, the steps cs take those of ys in their order: for every j, some first steps of cs merge the first j steps of ys into xs
abbrev pub InTurn : Independence → List Str → List Str → List Str → Type 0
InTurn i xs ys cs = (j : ℕ) → (k : ℕ) × Merged i xs (take j ys) (xs ++ take k cs)
