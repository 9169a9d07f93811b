-- The places told of strings that are no states or steps.
-- Reading stops at the first byte that no string of the kind goes on with, and up to there some string does. So the
-- place told is where the longest beginning ends; there is but one such place, so it is told wherever it is.
use Rattle.std.proofs.Common.{◌≡◌, ◌↔◌, ℕ, zero, suc, min, ◌≤◌, ◌<◌, true, List, [], ◌∷◌, ◌++◌, length, take, drop, Some, None, Ok, Err, Option, Result, is_ok, sym, refl, ap, ◌∙◌, subst, append-nil, arith}
use Rattle.std.proofs.lemmas.List.{length-take, take-append-drop}
use Rattle.std.specs.Result.{result_err}
use Rattle.steps.specs.Meaning.{Str}
use Rattle.steps.specs.Laws.{state_limit, step_limit}
use Rattle.ccs.specs.Syntax.{Term, Proof}
use Rattle.ccs.specs.Spelling.{term_bytes, proof_bytes, sound_term, sound_proof}
use Rattle.ccs.specs.declared.due.Due.{Due}
use Rattle.ccs.specs.declared.due.Due.TheVariants.{Node}
use Rattle.ccs.specs.Reading.{Next, read, term_byte, proof_byte, only, read_term, read_proof}
use Rattle.ccs.specs.Beginning.{IsTerm, IsProof, LongestBeginning}
use Rattle.ccs.specs.First.{First, FirstIf}
use Rattle.ccs.specs.Improper.{ImproperAt, improper, or_else}
use Rattle.ccs.specs.System.{past, improper_of, terms_transitions}
use Rattle.ccs.specs.ReadingLaws.{StateFault, StatePlaces, StepFault, StepPlaces}
use Rattle.ccs.specs.ReadingLaws.StepFault.{unfit, not_proper}
use Rattle.ccs.proofs.Reading.{Begins, begins}
use Rattle.ccs.proofs.Spelled.{one_read}
use Rattle.ccs.proofs.Beginning.{take_on, longest}
use Rattle.ccs.proofs.First.{first_is_one}
use Rattle.ccs.proofs.Limits.{within_limit, past_limit, no_place}
use Rattle.ccs.proofs.Improper.{improper_first}
use Rattle.ccs.proofs.TermReading as terms
use Rattle.ccs.proofs.ProofReading as proofs

take_take : (p l : ℕ) (s : Str) → p ≤ l → take p (take l s) ≡ take p s
take_take zero l s h = refl
take_take (suc p) zero s h = absurd (omega (arith, h))
take_take (suc p) (suc l) [] h = refl
take_take (suc p) (suc l) (b ∷ s) h = ap (b ∷◌) (take_take p l s (omega (arith, h)))

-- there is but one longest beginning
pub longest_is_one : (Is : Str → Type 0) (s : Str) (p q : ℕ) → LongestBeginning Is s p → LongestBeginning Is s q → p ≡ q
longest_is_one Is s p q h k =
    let not_before : p < q → ⊥ = λ l. h.longest q k.begins.0 l k.within k.begins.1 in
    let not_behind : q < p → ⊥ = λ l. k.longest p h.begins.0 l h.within h.begins.1 in
    omega (arith, not_before, not_behind)

module _ (Is : Str → Type 0) (l : ℕ) (s : Str) where
  -- of a string cut at a limit, the beginning is cut there too
  pub cut : (k p : ℕ) → LongestBeginning Is s k → min k l ≡ p → LongestBeginning Is (take l s) p
  cut k p h e =
      record {
        within = omega (arith, e, h.within, length-take l s);
        begins =
            let t = take_on p k s h.begins.0 (omega (arith, e)) in
            (t.0, subst Is (t.1 ∙ ap (◌++ t.0) (sym (take_take p l s (omega (arith, e))))) h.begins.1);
        longest = λ q r m n is.
            let within : q ≤ min l (length s) = omega (arith, n, length-take l s) in
            let same : take q (take l s) ≡ take q s = take_take q l s (omega (arith, within)) in
            h.longest q r (omega (arith, m, e, within)) (omega (arith, within)) (subst Is (ap (◌++ r) same) is);
      }

  -- a whole one is cut at the limit
  pub whole : Is s → l < length s → LongestBeginning Is (take l s) l
  whole is h =
      record {
        within = omega (arith, h, length-take l s);
        begins =
            let whole_again = ap (◌++ drop l s) (take_take l l s (omega arith)) ∙ take-append-drop l s in
            (drop l s, subst Is (sym whole_again) is);
        longest = λ q r m n x. absurd (omega (arith, m, n, length-take l s));
      }

-- what is told of a string of a kind that is read byte by byte
module _ {A : Type 0} (Is : Str → Type 0) (byte : Due → ℕ → ℕ → Option (Next A))
    (is_read : (s : Str) → Is s → (x : A) × read byte Node 1 s ≡ Ok (x ∷ []))
    (read_is : (s : Str) (xs : List A) → read byte Node 1 s ≡ Ok xs → Is s)
    (begins : (s : Str) → Begins byte Node 1 s (read byte Node 1 s))
    (l : ℕ) (s : Str) where
  abbrev pub Unfit : ℕ → Type 0
  Unfit p = (Is s × (length s ≤ l) → ⊥) × LongestBeginning Is (take l s) p

  pub place : (p : ℕ) → past l s (result_err (only (read byte Node 1 s))) ≡ Some p → Unfit p
  place p e = go (read byte Node 1 s) refl e
    where
      go : (r : Result (List A) ℕ) → read byte Node 1 s ≡ r → past l s (result_err (only r)) ≡ Some p → Unfit p
      go (Ok []) r e = let is = is_read s (read_is s [] r) in absurd (cc (sym r ∙ is.1))
      go (Ok (x ∷ xs)) r e =
          let f = past_limit l s p e in
          let is = read_is s (x ∷ xs) r in
          (λ h. omega (arith, h.1, f.0), subst (LongestBeginning Is (take l s)) f.1 (whole Is l s is f.0))
      go (Err k) r e = (
        λ h. let is = is_read s h.0 in cc (sym r ∙ is.1),
        cut Is l s k p (longest Is byte is_read read_is begins s k r) (cc e),
      )

  pub unfit_place : (p : ℕ) → Unfit p → past l s (result_err (only (read byte Node 1 s))) ≡ Some p
  unfit_place p u = go (past l s (result_err (only (read byte Node 1 s)))) refl
    where
      of_one : (r : Result (List A) ℕ) → read byte Node 1 s ≡ r → is_ok (only r) ≡ true → Is s
      of_one (Ok xs) r f = read_is s xs r
      of_one (Err k) r f = absurd (cc f)

      go : (o : Option ℕ) → past l s (result_err (only (read byte Node 1 s))) ≡ o → o ≡ Some p
      go None e =
          let h = (no_place l s (only (read byte Node 1 s))).0 e in
          absurd (u.0 (of_one (read byte Node 1 s) refl h.0, h.1))
      go (Some k) e = ap Some (longest_is_one Is (take l s) k p (place k e).1 u.1)

-- of terms
module _ (n : ℕ) where
  term_read : (s : Str) → IsTerm n s → (p : Term) × read (term_byte n) Node 1 s ≡ Ok (p ∷ [])
  unfolding read
  term_read s h =
      let same : s ≡ term_bytes h.0 ++ [] = sym (append-nil (term_bytes h.0) ∙ h.1) in
      (h.0, ap (read (term_byte n) Node 1) same ∙ terms.reads_term n h.0 h.2 0 [] [] refl)

  is_term : (s : Str) (ps : List Term) → read (term_byte n) Node 1 s ≡ Ok ps → IsTerm n s
  is_term s ps e = one_read term_bytes (sound_term n) terms.opening (term_byte n) refl (terms.byte_keeps n) s ps e

  begins_term : (s : Str) → Begins (term_byte n) Node 1 s (read (term_byte n) Node 1 s)
  begins_term s = begins (term_byte n) (terms.Alive n) (terms.alive_on n) (terms.ending n) Node 1 s tt

  -- of a string that is no term within a limit, the longest beginning within it is told
  pub term_place : (l : ℕ) (s : Str) (p : ℕ) → past l s (result_err (read_term n s)) ≡ Some p
      → (IsTerm n s × (length s ≤ l) → ⊥) × LongestBeginning (IsTerm n) (take l s) p
  term_place l = place (IsTerm n) (term_byte n) term_read is_term begins_term l

  pub no_term_place : (l : ℕ) (s : Str) (p : ℕ)
      → (IsTerm n s × (length s ≤ l) → ⊥) × LongestBeginning (IsTerm n) (take l s) p
      → past l s (result_err (read_term n s)) ≡ Some p
  no_term_place l = unfit_place (IsTerm n) (term_byte n) term_read is_term begins_term l

pub state_place : StatePlaces
state_place ds s p = (
  λ e. let h = term_place (length ds) state_limit s p e in record { no_state = h.0; place = h.1 },
  λ f. no_term_place (length ds) state_limit s p (f.no_state, f.place),
)

pub state_places : (ds : List Term) (s : Str) (p : ℕ) → (terms_transitions ds).bad_state s ≡ Some p
    → LongestBeginning (IsTerm (length ds)) (take state_limit s) p
state_places ds s p e = (term_place (length ds) state_limit s p e).1

-- of proofs
proof_read : (s : Str) → IsProof s → (t : Proof) × read proof_byte Node 1 s ≡ Ok (t ∷ [])
unfolding read
proof_read s h =
    let same : s ≡ proof_bytes h.0 ++ [] = sym (append-nil (proof_bytes h.0) ∙ h.1) in
    (h.0, ap (read proof_byte Node 1) same ∙ proofs.reads_proof h.0 h.2 0 [] [] refl)

is_proof : (s : Str) (ts : List Proof) → read proof_byte Node 1 s ≡ Ok ts → IsProof s
is_proof s ts e = one_read proof_bytes sound_proof proofs.opening proof_byte refl proofs.byte_keeps s ts e

begins_proof : (s : Str) → Begins proof_byte Node 1 s (read proof_byte Node 1 s)
begins_proof s = begins proof_byte proofs.Alive proofs.alive_on proofs.ending Node 1 s tt

module _ (ds : List Term) (x : Str) (p : ℕ) where
  pub step_places : (terms_transitions ds).bad_step x ≡ Some p → StepFault x p
  step_places e = go (past step_limit x (result_err (read_proof x))) refl e
    where
      on : (r : Result Proof ℕ) → read_proof x ≡ r → past step_limit x (result_err r) ≡ None
          → improper_of r ≡ Some p → StepFault x p
      on (Ok t) r f e =
          let h = proofs.read_is_proof x t r in
          not_proper t h.0 h.1 (within_limit step_limit x f) (subst (FirstIf (ImproperAt t)) e (improper_first t))
      on (Err k) r f e = absurd (cc e)

      go : (o : Option ℕ) → past step_limit x (result_err (read_proof x)) ≡ o
          → or_else o (improper_of (read_proof x)) ≡ Some p → StepFault x p
      go (Some k) f e =
          let same : k ≡ p = cc e in
          let h = place IsProof proof_byte proof_read is_proof begins_proof step_limit x p (f ∙ ap Some same) in
          unfit h.0 h.1
      go None f e = on (read_proof x) refl f e

  fault_place : StepFault x p → (terms_transitions ds).bad_step x ≡ Some p
  fault_place (unfit n b) =
      rw (unfit_place IsProof proof_byte proof_read is_proof begins_proof step_limit x p (n, b)) refl
  fault_place (not_proper t e s l f) =
      let is : read_proof x ≡ Ok t = ap read_proof (sym e) ∙ proofs.proof_is_read t s in
      let none = (no_place step_limit x (read_proof x)).1 (ap is_ok is, l) in
      rw (none, is) (first_improper (improper t) (improper_first t))
    where
      first_improper : (o : Option ℕ) → FirstIf (ImproperAt t) o → o ≡ Some p
      first_improper (Some k) h = ap Some (first_is_one (ImproperAt t) k p h f)
      first_improper None h = absurd (h p f.holds)

pub step_place : StepPlaces
step_place ds x p = (step_places ds x p, fault_place ds x p)
