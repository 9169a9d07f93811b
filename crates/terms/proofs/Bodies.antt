-- Which strings are bodies, and what is told of the others.
use Rattle.std.proofs.Common.{◌≡◌, ℕ, ◌≤◌, Bool, true, false, cond, not, [], ◌∷◌, length, is_some, Some, None, Option, nat_eq, nat_le, sym, refl, ap, ◌∙◌, subst, arith}
use Rattle.std.specs.Result.{result_err}
use Rattle.std.proofs.lemmas.Bool.{eqb-true, ne_eqb, leb-true, le-leb, cond-true, cond-false}
use Rattle.steps.specs.Meaning.{Str}
use Rattle.ccs.specs.Syntax.{Term}
use Rattle.ccs.specs.Syntax.Term.{nil, prefix, par, sum, restrict, call}
use Rattle.ccs.specs.Spelling.{term_bytes}
use Rattle.ccs.specs.Reading.{read, read_term}
use Rattle.ccs.specs.Follow.{plain}
use Rattle.ccs.specs.System.{past}
use Rattle.ccs.proofs.TermReading.{read_is_term, term_is_read}
use Rattle.ccs.proofs.Places.{term_place}
use Rattle.terms.specs.Bodies.{body_limit, body_fault}
use Rattle.terms.specs.BodyLaws.{IsBody, BodyFaultAt, BodiesTold}
use Rattle.terms.specs.BodyLaws.BodyFaultAt.{a_call, unfit}
use Rattle.terms.specs.Laws.Sound.{is_body}

-- a term that is no call begins with no call
no_call : (p : Term) (b : ℕ) (s : Str) → term_bytes p ≡ b ∷ s → plain p ≡ true → b ≡ 0x05 → ⊥
unfolding term_bytes
no_call nil b s e f g = let h : 0x00 ≡ b = cc e in omega (arith, h, g)
no_call (prefix a p) b s e f g = let h : 0x01 ≡ b = cc e in omega (arith, h, g)
no_call (par p q) b s e f g = let h : 0x02 ≡ b = cc e in omega (arith, h, g)
no_call (sum p q) b s e f g = let h : 0x03 ≡ b = cc e in omega (arith, h, g)
no_call (restrict m p) b s e f g = let h : 0x04 ≡ b = cc e in omega (arith, h, g)
no_call (call d) b s e f g = absurd (cc f)

within : (s : Str) (o : Option ℕ) → past body_limit s o ≡ None → length s ≤ body_limit
within s None e = go (nat_le (length s) body_limit) refl e
  where
    go : (c : Bool) → nat_le (length s) body_limit ≡ c → cond {A = Option ℕ} c None (Some body_limit) ≡ None
        → length s ≤ body_limit
    go true f e = leb-true (length s) body_limit f
    go false f e = absurd (cc e)
within s (Some k) e = absurd (cc e)

-- the fault of a string that does not begin with a call
plain_fault : ℕ → Str → Option ℕ
plain_fault n s = past body_limit s (result_err (read_term n s))

told_none : (n : ℕ) (s : Str) → body_fault n s ≡ None → plain_fault n s ≡ None
unfolding plain_fault
told_none n [] e = e
told_none n (b ∷ s) e = go (nat_eq b 0x05) e
  where
    go : (c : Bool) → cond c (Some 0) (plain_fault n (b ∷ s)) ≡ None → plain_fault n (b ∷ s) ≡ None
    go true e = absurd (cc e)
    go false e = e

body_of_none : (n : ℕ) (s : Str) → body_fault n s ≡ None → IsBody n s
unfolding plain_fault
body_of_none n s e =
    let b = is_body n s (ap (λ o. not (is_some o)) e) in
    let h = read_is_term n s b.0 b.1 in
    (b.0, h.0, h.1, b.2, within s (result_err (read_term n s)) (told_none n s e))

none_of_body : (n : ℕ) (s : Str) → IsBody n s → body_fault n s ≡ None
unfolding read
none_of_body n s (p, bytes, sound, own, few) = subst (λ s. body_fault n s ≡ None) bytes (go (term_bytes p) refl)
  where
    fits : (z : Str) → term_bytes p ≡ z → past body_limit z (result_err (read_term n z)) ≡ None
    fits z e =
        ap (λ r. past body_limit z (result_err r)) (ap (read_term n) (sym e) ∙ term_is_read n p sound)
        ∙ cond-true (nat_le (length z) body_limit) _ _
        (le-leb _ _ (subst (λ z. length z ≤ body_limit) (sym bytes ∙ e) few))

    go : (z : Str) → term_bytes p ≡ z → body_fault n z ≡ None
    go [] e = fits [] e
    go (b ∷ z) e = cond-false (nat_eq b 0x05) _ _ (ne_eqb b 0x05 (no_call p b z e own)) ∙ fits (b ∷ z) e

place_of : (n : ℕ) (s : Str) (k : ℕ) → body_fault n s ≡ Some k → BodyFaultAt n s k
place_of n [] k e = let h = term_place n body_limit [] k e in unfit (λ r f. absurd (cc f)) h.0 h.1
place_of n (b ∷ s) k e = go (nat_eq b 0x05) refl e
  where
    go : (c : Bool) → nat_eq b 0x05 ≡ c
        → cond c (Some 0) (past body_limit (b ∷ s) (result_err (read_term n (b ∷ s)))) ≡ Some k
        → BodyFaultAt n (b ∷ s) k
    go true f e =
        let five : b ≡ 0x05 = eqb-true b 0x05 f in
        let zero : 0 ≡ k = cc e in
        subst (λ b. BodyFaultAt n (b ∷ s) k) (sym five) (subst (BodyFaultAt n (0x05 ∷ s)) zero a_call)
    go false f e =
        let h = term_place n body_limit (b ∷ s) k e in
        unfit (λ r g. let five : b ≡ 0x05 = cc g in cc (sym f ∙ ap (λ b. nat_eq b 0x05) five)) h.0 h.1

pub bodies_told : BodiesTold
bodies_told n s = ((body_of_none n s, none_of_body n s), place_of n s)
