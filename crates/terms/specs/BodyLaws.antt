-- Which strings are bodies, and what is told of the others.
use Rattle.std.specs.Prelude.{◌≡◌, ℕ, ◌≤◌, ◌↔◌, ◌∷◌, length, take, Some, None, IsTrue}
use Rattle.steps.specs.Meaning.{Str}
use Rattle.ccs.specs.Syntax.{Term}
use Rattle.ccs.specs.Spelling.{term_bytes, sound_term}
use Rattle.ccs.specs.Follow.{plain}
use Rattle.ccs.specs.Beginning.{IsTerm, LongestBeginning}
use Rattle.terms.specs.Bodies.{body_limit, body_fault}

-- a term over n definitions that is no call, of at most 255 bytes
abbrev pub IsBody : ℕ → Str → Type 0
IsBody n s = (p : Term) × (term_bytes p ≡ s) × IsTrue (sound_term n p) × IsTrue (plain p)
    × (length s ≤ body_limit)

-- A string that begins with a call is told at that; of any other, the longest beginning within the
-- limit that begins a term.
pub data BodyFaultAt (n : ℕ) : Str → ℕ → Type 0 where
  a_call : {s : Str} → BodyFaultAt n (0x05 ∷ s) 0
  unfit : {s : Str} {k : ℕ} → ((r : Str) → s ≡ 0x05 ∷ r → ⊥)
      → (IsTerm n s × (length s ≤ body_limit) → ⊥)
      → LongestBeginning (IsTerm n) (take body_limit s) k → BodyFaultAt n s k

abbrev pub BodiesTold : Type 0
BodiesTold = (n : ℕ) (s : Str)
    → ((body_fault n s ≡ None) ↔ IsBody n s)
    × ((k : ℕ) → body_fault n s ≡ Some k → BodyFaultAt n s k)
