-- Terms built one body at a time.
use Rattle.std.proofs.Common.{◌≡◌, ℕ, ◌+◌, ◌<◌, nat_lt, List, [], ◌∷◌, ◌++◌, length, Some, None, Ok, Err, Option, Result, sym, refl, ap, ◌∙◌, arith, length-append, append-nil}
use Rattle.std.proofs.lemmas.Bool.{cond-true, lt-ltb}
use Rattle.byte_strings.specs.Buffer.{Str}
use Rattle.terms.specs.declared.body.BodyFault.{BodyFault}
use Rattle.terms.specs.declared.body.BodyFault.TheVariants.{NoBody}
use Rattle.terms.specs.Bodies.{body_fault, no_body, add_fault, answer_if, add_answer, with_body, bodies_after, place_of}
use Rattle.frame.specs.Frames.{definitions}
use Rattle.frame.proofs.Places.{definitions-append}
use Rattle.frame.specs.declared.fault.FrameFault.{FrameFault}
use Rattle.frame.specs.declared.fault.FrameFault.TheVariants.{BadSetup}
use Rattle.server.specs.TermsSetup.{behind, given}

-- the first body stands behind its length, and the next one behind it and a length
pub behind_none : (start : ℕ) → behind start [] ≡ start + 1
unfolding definitions
behind_none start = omega arith

pub behind_more : (start : ℕ) (front : List Str) (body : Str) → behind start (front ++ body ∷ []) ≡ behind start front + (length body + 1)
unfolding definitions
behind_more start front body = omega (arith, ap length (definitions-append front (body ∷ [])), length-append (definitions front) (length body ∷ (body ++ [])), ap length (append-nil body))

-- what the bodies behind those that are there give
module _ (start n : ℕ) (front left : List Str) (r : Result (List Str) FrameFault) (inv : given start n front left ≡ r) where
  pub given_all : left ≡ [] → Ok front ≡ r
  unfolding given
  given_all e = sym (ap (given start n front) e) ∙ inv

  module _ (b : Str) (back : List Str) (e : left ≡ b ∷ back) where
    with_fault : Option ℕ → Result (List Str) FrameFault
    with_fault o = elim o [ None ↦ given start n (front ++ b ∷ []) back | Some k ↦ Err (BadSetup (behind start front + k)) ]

    by_fault : with_fault (body_fault n b) ≡ r
    unfolding given with_fault
    by_fault = sym (ap (given start n front) e) ∙ inv

    pub given_on : body_fault n b ≡ None → given start n (front ++ b ∷ []) back ≡ r
    unfolding with_fault
    given_on f = sym (ap with_fault f) ∙ by_fault

    pub given_bad : (k : ℕ) → body_fault n b ≡ Some k → Err (BadSetup (behind start front + k)) ≡ r
    unfolding with_fault
    given_bad k f = sym (ap with_fault f) ∙ by_fault

-- what giving a body tells, where one is called for
module _ (n : ℕ) (ss : List Str) (s : Str) (room : length ss < n) where
  by_body : add_fault n ss s ≡ no_body (body_fault n s)
  by_body = cond-true (nat_lt (length ss) n) _ _ (lt-ltb (length ss) n room)

  pub taken_fault : Ok tt ≡ add_answer n ss s → body_fault n s ≡ None
  taken_fault e = go (body_fault n s) (e ∙ ap answer_if by_body)
    where
      go : (o : Option ℕ) → Ok tt ≡ answer_if (no_body o) → o ≡ None
      go None e = refl
      go (Some k) e = absurd (cc e)

  pub taken_after : Ok tt ≡ add_answer n ss s → bodies_after n ss s ≡ ss ++ s ∷ []
  taken_after e = ap (λ o. with_body o ss s) (by_body ∙ ap no_body (taken_fault e))

  pub refused_fault : (f : BodyFault) → Err f ≡ add_answer n ss s → body_fault n s ≡ Some (place_of f)
  refused_fault f e = go (body_fault n s) (e ∙ ap answer_if by_body)
    where
      go : (o : Option ℕ) → Err f ≡ answer_if (no_body o) → o ≡ Some (place_of f)
      go None e = absurd (cc e)
      go (Some k) e = let same : f ≡ NoBody k = cc e in ap (λ f. Some (place_of f)) (sym same)
