-- Which strings are terms, proofs and steps; and how far a string begins one of a kind.
use Rattle.std.specs.Prelude.{◌≡◌, ℕ, IsTrue}
use Rattle.steps.specs.Meaning.{Str}
pub use Rattle.steps.specs.Beginning.{LongestBeginning}
use Rattle.ccs.specs.Syntax.{Term, Proof}
use Rattle.ccs.specs.Label.{proper}
use Rattle.ccs.specs.Spelling.{term_bytes, proof_bytes, sound_term, sound_proof}

-- the strings that are terms over n definitions, those that are proofs, and those that are steps:
-- proper proofs
abbrev pub IsTerm : ℕ → Str → Type 0
IsTerm n s = (p : Term) × (term_bytes p ≡ s) × IsTrue (sound_term n p)

abbrev pub IsProof : Str → Type 0
IsProof s = (t : Proof) × (proof_bytes t ≡ s) × IsTrue (sound_proof t)

abbrev pub IsStep : Str → Type 0
IsStep s = (t : Proof) × (proof_bytes t ≡ s) × IsTrue (sound_proof t) × IsTrue (proper t)
