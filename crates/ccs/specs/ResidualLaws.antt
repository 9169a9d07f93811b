-- Independence, what is left, and back, by the rules.
use Rattle.std.specs.Prelude.{◌≡◌, ◌↔◌, List, length, Some, IsTrue}
use Rattle.steps.specs.Meaning.{Str}
use Rattle.steps.specs.Laws.{Laws}
use Rattle.ccs.specs.Syntax.{Term, Proof}
use Rattle.ccs.specs.Label.{proper}
use Rattle.ccs.specs.Spelling.{proof_bytes, sound_proof}
use Rattle.ccs.specs.After.{After}
use Rattle.ccs.specs.System.{sound_bodies, terms_transitions, terms_independence}

-- x and y spell independent proper proofs, and z spells what is left of x after y.
pub record Leaves (x y z : Str) : Type 0 where
  pub t : Proof
  pub u : Proof
  pub t' : Proof
  pub u' : Proof
  pub first : proof_bytes t ≡ x
  pub first_sound : IsTrue (sound_proof t)
  pub first_proper : IsTrue (proper t)
  pub second : proof_bytes u ≡ y
  pub second_sound : IsTrue (sound_proof u)
  pub second_proper : IsTrue (proper u)
  pub after : After t u t' u'
  pub rest : proof_bytes t' ≡ z

-- Something is left exactly where the rules say so.
abbrev pub LeftByRules : Type 0
LeftByRules =
    (x y z : Str)
    → (terms_independence.left x y ≡ Some z) ↔ Leaves x y z

-- What is left, and back, undo each other.
abbrev pub BackUndoesLeft : Type 0
BackUndoesLeft =
    (x y z : Str)
    → (terms_independence.back x z ≡ Some y) ↔ (terms_independence.left y x ≡ Some z)

-- Terms over sound definitions are a step system.
abbrev pub Lawful : Type 0
Lawful =
    (ds : List Term) → IsTrue (sound_bodies (length ds) ds)
    → Laws (terms_transitions ds) terms_independence
