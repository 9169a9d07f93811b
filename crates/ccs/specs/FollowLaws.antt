-- What follows a term, by the transition rules.
use Rattle.std.specs.Prelude.{◌≡◌, ℕ, ◌↔◌, List, length, Ok, Err, IsTrue}
use Rattle.steps.specs.Meaning.{Str}
use Rattle.ccs.specs.Syntax.{Term, Proof}
use Rattle.ccs.specs.Label.{label, proper}
use Rattle.ccs.specs.Spelling.{term_bytes, proof_bytes, sound_term, sound_proof}
use Rattle.ccs.specs.Moves.{Moves}
use Rattle.ccs.specs.First.{First}
use Rattle.ccs.specs.Follow.{MisfitAt}
use Rattle.ccs.specs.System.{body_of, sound_bodies, terms_transitions}

-- The state a spells a term, the step x a proper proof by which it moves, and b the term that it
-- moves to.
pub record Goes (ds : List Term) (a x b : Str) : Type 0 where
  pub p : Term
  pub t : Proof
  pub q : Term
  pub state : term_bytes p ≡ a
  pub state_sound : IsTrue (sound_term (length ds) p)
  pub step : proof_bytes t ≡ x
  pub step_sound : IsTrue (sound_proof t)
  pub is_proper : IsTrue (proper t)
  pub moves : Moves (body_of ds) p t q
  pub end : term_bytes q ≡ b

-- A step leads from a state to another exactly where the rules say so.
abbrev pub NextByRules : Type 0
NextByRules =
    (ds : List Term) → IsTrue (sound_bodies (length ds) ds)
    → (a x b : Str)
    → ((terms_transitions ds).next a x ≡ Ok b) ↔ Goes ds a x b

-- Exactly where a step is not possible in a state, the first node that does not fit is told.
abbrev pub MisfitsTold : Type 0
MisfitsTold =
    (ds : List Term) → IsTrue (sound_bodies (length ds) ds)
    → (p : Term) → IsTrue (sound_term (length ds) p)
    → (t : Proof) → IsTrue (sound_proof t) → IsTrue (proper t)
    → (k : ℕ)
    → ((terms_transitions ds).next (term_bytes p) (proof_bytes t) ≡ Err k)
    ↔ First (MisfitAt (body_of ds) p t) k

-- A step shows what its proof does.
abbrev pub LabelsShown : Type 0
LabelsShown =
    (ds : List Term) (t : Proof) → IsTrue (sound_proof t)
    → (terms_transitions ds).label (proof_bytes t) ≡ record { action = label t }
