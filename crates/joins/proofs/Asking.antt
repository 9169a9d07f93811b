-- Questions to a step system about steps within the limit, and their answers read out of a buffer. Assumes the laws of a step system where it says so.
use Rattle.std.proofs.Common.{◌≡◌, ℕ, ◌-◌, ◌≤◌, Bool, true, false, cond, leb, length, take, drop, Some, None, Ok, Err, Decides, Option, Result, sym, refl, ap, ◌∙◌, subst, arith}
use Rattle.std.proofs.lemmas.List.{take_at}
use Rattle.std.proofs.lemmas.Bool.{cond-true, le-leb, leb-true, both_ways}
use Rattle.byte_strings.specs.Buffer.{count_some, buffer_after_some}
use Rattle.byte_strings.specs.Fitted.{list_within}
use Rattle.byte_strings.proofs.Fitted.{fitted_is}
use Rattle.steps.specs.Meaning.{Str, Transitions, Independence}
use Rattle.steps.specs.Laws.{Laws}
use Rattle.steps.specs.Answers.{both_answer, fitting_step, left_answer, back_answer, told_length}
use Rattle.steps.specs.declared.fault.MaskFault.{MaskFault}
use Rattle.steps.specs.declared.fault.MaskFault.TheVariants.{Inner}
use Rattle.steps.specs.declared.fault.SystemFault.TheVariants.{StepTooLong}
use Rattle.steps.proofs.Answered.{ok_not_err, some_not_none, both_ok}
use Rattle.runs.specs.Join.{both_left, meet}
use Rattle.runs.proofs.Carry.{meet_apart}
use Rattle.joins.specs.Steps.{ShortStep}

-- a step that is answered, with its length, at the front of a buffer
some_counted : {F : Type 0} (o : Result (Option Str) F) (n : ℕ) → Ok (Some n) ≡ count_some o → (w : Str) × (o ≡ Ok (Some w)) × (n ≡ length w)
some_counted (Ok (Some w)) n e = (w, refl, cc)
some_counted {F} (Ok None) n e = let z : Some n ≡ None = cc in some_not_none n z
some_counted {F} (Err f) n e = ok_not_err (Some n) f e

module _ {F : Type 0} (o : Result (Option Str) F) (w : Str) (is : o ≡ Ok (Some w)) (n : ℕ) (bytes zeros : Str) (buffer : bytes ≡ buffer_after_some o zeros) (len : n ≡ length w) where
  front : take n bytes ≡ w
  front =
      ap (λ k. take k bytes) len ∙ ap (take (length w)) (buffer ∙ ap (λ r. buffer_after_some r zeros) is) ∙ take_at w (drop (length w) zeros) (length w) refl

  front_held : length w ≤ 64 → list_within 64 (take n bytes) ≡ Some w
  front_held short = ap (list_within 64) front ∙ cond-true (leb (length w) 64) (Some w) None (le-leb _ _ short)

-- an answer is no refusal
not_refused : (o : Option Str) (f : MaskFault) → Err f ≡ count_some (Ok o) → ⊥
not_refused (Some w) f e = ok_not_err (Some (length w)) f (sym e)
not_refused None f e = ok_not_err {A = Option ℕ} None f (sym e)

-- a step that fits is the one asked for, within the limit
fits_some : (o : Option Str) (w : Str) → fitting_step o 64 ≡ Ok (Some w) → (o ≡ Some w) × (length w ≤ 64)
fits_some None w e = let z : None ≡ Some w = cc in some_not_none w (sym z)
fits_some (Some v) w e = go (leb (length v) 64) refl e
  where
    go : (d : Bool) → leb (length v) 64 ≡ d → cond d (Ok (Some v)) (Err (Inner (StepTooLong (told_length (length v))))) ≡ Ok (Some w) → (Some v ≡ Some w) × (length w ≤ 64)
    go true h p = let same : v ≡ w = cc in (ap Some same, subst (λ u. length u ≤ 64) same (leb-true (length v) 64 h))
    go false h p = ok_not_err (Some w) _ (sym p)

-- what is left of a step within the limit is one
pub left_short : {t : Transitions} {i : Independence} → Laws t i → (x y z : Str) → ShortStep t x → i.left x y ≡ Some z → ShortStep t z
left_short laws x y z short e = (laws.left_step x y z e, omega (arith, laws.left_length x y z e, short.1))

-- two strings that a test tells apart are different
told_apart : (y x given_y given_x : Str) (r : Bool) → given_y ≡ y → given_x ≡ x → Decides r (given_y ≡ given_x) → r ≡ false → y ≡ x → ⊥
told_apart y x given_y given_x r is_y is_x decides e same = both_ways r e (decides.1 (is_y ∙ same ∙ sym is_x))

-- steps that a test tells apart meet as what is left of each
pub meets_apart : (i : Independence) (y x given_y given_x : Str) (r : Bool) → given_y ≡ y → given_x ≡ x → Decides r (given_y ≡ given_x) → r ≡ false → both_left (i.left y x) (i.left x y) ≡ meet i y x
meets_apart i y x given_y given_x r is_y is_x decides e = sym (meet_apart i y x (told_apart y x given_y given_x r is_y is_x decides e))

module _ {t : Transitions} {i : Independence} (laws : Laws t i) (x y : Str) (short_x : ShortStep t x) (short_y : ShortStep t y) where
  asked : {A : Type 0} (r : Result A MaskFault) → both_answer t x y r ≡ r
  asked r =
      let a = (laws.step_refusals x).1 short_x in
      let b = (laws.step_refusals y).1 short_y in
      both_ok t x y r a.0 b.0 a.1 b.1

  -- what is left of such a step is answered as it is
  left_answered : left_answer t i x y 64 ≡ Ok (i.left x y)
  left_answered = asked (fitting_step (i.left x y) 64) ∙ go (i.left x y) refl
    where
      go : (o : Option Str) → i.left x y ≡ o → fitting_step o 64 ≡ Ok o
      go None e = refl
      go (Some z) e = cond-true (leb (length z) 64) (Ok (Some z)) (Err (Inner (StepTooLong (told_length (length z))))) (le-leb _ _ (omega (arith, laws.left_length x y z e, short_x.1)))

  module _ (given_x given_y : Str) (is_x : given_x ≡ x) (is_y : given_y ≡ y) where
    left_is : left_answer t i given_x given_y 64 ≡ Ok (i.left x y)
    left_is = ap (λ v. left_answer t i v given_y 64) is_x ∙ ap (λ v. left_answer t i x v 64) is_y ∙ left_answered

    back_is : back_answer t i given_x given_y 64 ≡ fitting_step (i.back x y) 64
    back_is = ap (λ v. back_answer t i v given_y 64) is_x ∙ ap (λ v. back_answer t i x v 64) is_y ∙ asked (fitting_step (i.back x y) 64)

    pub left_not_refused : (f : MaskFault) → Err f ≡ count_some (left_answer t i given_x given_y 64) → ⊥
    left_not_refused f e = not_refused (i.left x y) f (e ∙ ap count_some left_is)

    pub left_held : (n : ℕ) (bytes zeros : Str) → Ok (Some n) ≡ count_some (left_answer t i given_x given_y 64) → bytes ≡ buffer_after_some (left_answer t i given_x given_y 64) zeros → list_within 64 (take n bytes) ≡ i.left x y
    left_held n bytes zeros answer buffer =
        let w = some_counted (left_answer t i given_x given_y 64) n answer in
        let is : i.left x y ≡ Some w.0 = cc (left_is, w.1) in
        front_held (left_answer t i given_x given_y 64) w.0 w.1 n bytes zeros buffer w.2 (left_short laws x y w.0 short_x is).1 ∙ sym is

    -- the step that back answers is one within the limit
    pub back_held : (n : ℕ) (bytes zeros : Str) → Ok (Some n) ≡ count_some (back_answer t i given_x given_y 64) → bytes ≡ buffer_after_some (back_answer t i given_x given_y 64) zeros → (w : Str) → Some w ≡ list_within 64 (take n bytes) → (fitting_step (i.back x y) 64 ≡ Ok (Some w)) × ShortStep t w
    back_held n bytes zeros answer buffer w held =
        let v = some_counted (back_answer t i given_x given_y 64) n answer in
        let same : w ≡ v.0 = fitted_is (take n bytes) w 64 held ∙ front (back_answer t i given_x given_y 64) v.0 v.1 n bytes zeros buffer v.2 in
        let told : fitting_step (i.back x y) 64 ≡ Ok (Some w) = sym back_is ∙ v.1 ∙ ap (λ u. Ok (Some u)) (sym same) in
        let f = fits_some (i.back x y) w told in
        (told, (laws.between_steps w x y ((laws.origin x w y).0 f.0), f.1))
