-- Terms of the calculus, and proofs of their steps.
use Rattle.std.specs.Prelude.{ℕ}

-- A term does nothing, or does an action and goes on, or runs two terms side by side, or chooses
-- one of two, or keeps a name to itself, or calls a definition by its number.
pub data Term : Type 0 where
  nil : Term
  prefix : (a : ℕ) (p : Term) → Term
  par : (p q : Term) → Term
  sum : (p q : Term) → Term
  restrict : (n : ℕ) (p : Term) → Term
  call : (d : ℕ) → Term

-- A proof says how a step comes about: by a prefix's action, on the left or on the right of a
-- parallel term, by both sides together, by the left or the right branch of a choice, or under a
-- restriction.
pub data Proof : Type 0 where
  act : (a : ℕ) → Proof
  on_left : (t : Proof) → Proof
  on_right : (t : Proof) → Proof
  both : (t u : Proof) → Proof
  choose_left : (t : Proof) → Proof
  choose_right : (t : Proof) → Proof
  under : (n : ℕ) (t : Proof) → Proof
