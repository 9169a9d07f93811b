-- A setup gives the terms that its bodies spell, or the first byte that fits no body.
use Rattle.std.proofs.Common.{◌≡◌, ℕ, ◌+◌, ◌-◌, true, List, [], ◌∷◌, ◌++◌, length, map, not, is_some, Some, None, Ok, Err, Option, Result, replicate, sym, refl, ap, ◌∙◌, subst, append_assoc, append-nil, ap₂, arith}
use Rattle.std.proofs.lemmas.List.Elements.{All-nil, All-push}
use Rattle.std.specs.List.{All}
use Rattle.byte_strings.specs.Buffer.{Str}
use Rattle.ccs.specs.Syntax.{Term}
use Rattle.ccs.specs.Syntax.Term.{nil}
use Rattle.ccs.specs.Spelling.{term_bytes}
use Rattle.ccs.proofs.TermReading.{read_is_term}
use Rattle.ccs.proofs.Cases.{both_of}
use Rattle.terms.specs.Bodies.{body_fault, sound_bodies_of, body_in, terms_in}
use Rattle.terms.specs.BodyLaws.{IsBody, BodyFaultAt}
use Rattle.terms.specs.Laws.Sound.{is_body, body_is, terms_sound}
use Rattle.terms.proofs.Added.{push_sound}
use Rattle.terms.proofs.Bodies.{bodies_told}
use Rattle.frame.specs.declared.fault.FrameFault.{FrameFault}
use Rattle.frame.specs.declared.fault.FrameFault.TheVariants.{BadSetup}
use Rattle.server.specs.TermsSetup.{behind, given, GivesTerms, SetupsGiveTerms}
use Rattle.server.specs.TermsSetup.GivesTerms.{whole, broken}

-- what comes of the bodies
data Given (start n : ℕ) (bodies : List Str) : Result (List Str) FrameFault → Type 0 where
  all : (ss : List Str) → ss ≡ bodies → sound_bodies_of n ss ≡ true → Given start n bodies (Ok ss)
  first : (front back : List Str) (b : Str) (k : ℕ) → bodies ≡ front ++ b ∷ back → All (IsBody n) front → BodyFaultAt n b k → Given start n bodies (Err (BadSetup (behind start front + k)))

no_bodies : (n : ℕ) → sound_bodies_of n [] ≡ true
unfolding sound_bodies_of
no_bodies n = refl

gives : (start n : ℕ) (bodies front back : List Str) → bodies ≡ front ++ back → All (IsBody n) front → sound_bodies_of n front ≡ true → Given start n bodies (given start n front back)
unfolding given
gives start n bodies front [] e h s = all front (sym (e ∙ append-nil front)) s
gives start n bodies front (b ∷ back) e h s =
    go (body_fault n b) refl (λ f. gives start n bodies (front ++ b ∷ []) back (e ∙ sym (append_assoc front (b ∷ []) back)) (All-push (IsBody n) front b h ((bodies_told n b).0.0 f)) (push_sound n front b s (sym f)))
  where
    go : (o : Option ℕ) → body_fault n b ≡ o → (body_fault n b ≡ None → Given start n bodies (given start n (front ++ b ∷ []) back)) → Given start n bodies (elim o as (λ _. Result (List Str) FrameFault) [ None ↦ given start n (front ++ b ∷ []) back | Some k ↦ Err (BadSetup (behind start front + k)) ])
    go None f g = g f
    go (Some k) f g = first front back b k e h ((bodies_told n b).1 k f)

-- the terms that bodies spell are spelled by them
spelled_again : (n : ℕ) (ss : List Str) → sound_bodies_of n ss ≡ true → map term_bytes (map (body_in n) ss) ≡ ss
unfolding sound_bodies_of
spelled_again n [] e = refl
spelled_again n (s ∷ ss) e =
    let c = both_of (not (is_some (body_fault n s))) (sound_bodies_of n ss) e in
    let b = is_body n s c.0 in
    ap₂ (λ p ps. p ∷ ps) (ap term_bytes (body_is n s b.0 b.1) ∙ (read_is_term n s b.0 b.1).0) (spelled_again n ss c.1)

whole_terms : (start : ℕ) (bodies : List Str) → sound_bodies_of (length bodies) bodies ≡ true → GivesTerms start bodies (Ok (terms_in (length bodies) bodies))
whole_terms start bodies e =
    let n = length bodies in
    let none : n - n ≡ 0 = omega arith in
    let alone : terms_in n bodies ≡ map (body_in n) bodies = ap (λ k. map (body_in n) bodies ++ replicate k nil) none ∙ append-nil (map (body_in n) bodies) in
    whole (terms_in n bodies) (ap (map term_bytes) alone ∙ spelled_again n bodies e) (terms_sound n bodies (omega arith) e)

pub setups_give_terms : SetupsGiveTerms
setups_give_terms start bodies = go (given start (length bodies) [] bodies) (gives start (length bodies) bodies [] bodies refl (All-nil (IsBody (length bodies))) (no_bodies (length bodies)))
  where
    go : (r : Result (List Str) FrameFault) → Given start (length bodies) bodies r → GivesTerms start bodies (elim r as (λ _. Result (List Term) FrameFault) [ Ok ss ↦ Ok (terms_in (length bodies) ss) | Err f ↦ Err f ])
    go _ (all ss same sound) = subst (λ ss. GivesTerms start bodies (Ok (terms_in (length bodies) ss))) (sym same) (whole_terms start bodies (subst (λ ss. sound_bodies_of (length bodies) ss ≡ true) same sound))
    go _ (first front back b k e h g) = broken front back b k e h g
