-- Which strings are states and steps, and what is told of the others.
use Rattle.std.specs.Prelude.{◌≡◌, ℕ, ◌≤◌, ◌↔◌, List, length, take, Some, Ok, IsTrue}
use Rattle.steps.specs.Meaning.{Str}
use Rattle.steps.specs.Laws.{state_limit, step_limit}
use Rattle.ccs.specs.Syntax.{Term, Proof}
use Rattle.ccs.specs.Spelling.{term_bytes, proof_bytes, sound_term, sound_proof}
use Rattle.ccs.specs.Reading.{read_term, read_proof}
use Rattle.ccs.specs.Beginning.{IsTerm, IsProof, IsStep, LongestBeginning}
use Rattle.ccs.specs.First.{First}
use Rattle.ccs.specs.Improper.{ImproperAt}
use Rattle.ccs.specs.System.{terms_transitions}

-- A string is read as the one term, or the one proof, that it spells.
abbrev pub ReadTerms : Type 0
ReadTerms =
    (n : ℕ) (s : Str) (p : Term)
    → (read_term n s ≡ Ok p) ↔ ((term_bytes p ≡ s) × IsTrue (sound_term n p))

abbrev pub ReadProofs : Type 0
ReadProofs =
    (s : Str) (t : Proof)
    → (read_proof s ≡ Ok t) ↔ ((proof_bytes t ≡ s) × IsTrue (sound_proof t))

-- States are terms, and steps proper proofs.
abbrev pub StatesAreTerms : Type 0
StatesAreTerms =
    (ds : List Term) (s : Str)
    → IsTrue ((terms_transitions ds).state s) ↔ IsTerm (length ds) s

abbrev pub StepsAreProper : Type 0
StepsAreProper =
    (ds : List Term) (x : Str)
    → IsTrue ((terms_transitions ds).step x) ↔ IsStep x

-- Of a string that is no state within the limit, the longest beginning within the limit that begins
-- a state is told.
pub record StateFault (n : ℕ) (s : Str) (p : ℕ) : Type 0 where
  pub no_state : IsTerm n s × (length s ≤ state_limit) → ⊥
  pub place : LongestBeginning (IsTerm n) (take state_limit s) p

abbrev pub StatePlaces : Type 0
StatePlaces =
    (ds : List Term) (s : Str) (p : ℕ)
    → ((terms_transitions ds).bad_state s ≡ Some p) ↔ StateFault (length ds) s p

-- Of a string that is no proof within the limit, the same for proofs; and of a proof within the
-- limit, the first improper node.
pub data StepFault (x : Str) (p : ℕ) : Type 0 where
  unfit :
      (IsProof x × (length x ≤ step_limit) → ⊥)
      → LongestBeginning IsProof (take step_limit x) p
      → StepFault x p
  not_proper : (t : Proof)
      → proof_bytes t ≡ x
      → IsTrue (sound_proof t)
      → length x ≤ step_limit
      → First (ImproperAt t) p
      → StepFault x p

abbrev pub StepPlaces : Type 0
StepPlaces =
    (ds : List Term) (x : Str) (p : ℕ)
    → ((terms_transitions ds).bad_step x ≡ Some p) ↔ StepFault x p
