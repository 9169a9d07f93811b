-- The definitions of a setup of terms, one by one.
use Rattle.std.specs.Prelude.{◌≡◌, ℕ, ◌+◌, ◌≤◌, List, [], ◌∷◌, length, Some, None, Option}
use Rattle.frame.specs.declared.definition.Definition.{Definition}

-- A definition is the first of those that are left, which begin at a place of the frame; its body
-- stands behind its length.
pub record TakesFirst
    (left : List (List ℕ)) (place : ℕ) (d : Definition) (left′ : List (List ℕ)) (place′ : ℕ)
    : Type 0 where
  pub first : left ≡ d.body.now ∷ left′
  pub stands : d.place ≡ place + 1
  pub next : place′ ≡ d.place + length d.body.now
  pub short : length d.body.now ≤ 255
  pub within : d.place + length d.body.now ≤ 1024

-- The next definition, or none where none is left.
abbrev pub NextDefinition : List (List ℕ) → ℕ → Option Definition → List (List ℕ) → ℕ → Type 0
NextDefinition left place None left′ place′ = (left ≡ []) × (left′ ≡ [])
NextDefinition left place (Some d) left′ place′ = TakesFirst left place d left′ place′
