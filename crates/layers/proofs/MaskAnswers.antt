-- What a mask answers, beside what is answered inside.
-- An answer is `first` of the refusals in their order. The shape of a step is refused alike inside and outside.
-- With the mask's test false, all that follows is the inner system's, by computing; with it true, and the steps
-- well shaped, the next refusal is the mask's. The rest is by cases on the test and on the shapes.
use Rattle.std.proofs.Common.{◌≡◌, ℕ, Bool, true, false, cond, ◌||◌, ◌⊎◌, inl, inr, List, is_some, Some, None, Ok, Err, Option, Result, refl, sym, ap, ap₂, ◌∙◌, arith}
use Rattle.std.proofs.lemmas.Bool.{false≢true}
use Rattle.actions.specs.Names.{all_names}
use Rattle.steps.specs.declared.fault.MaskFault.{MaskFault}
use Rattle.steps.specs.declared.fault.MaskFault.TheVariants.{Masked, Inner}
use Rattle.steps.specs.declared.fault.SystemFault.{SystemFault}
use Rattle.steps.specs.declared.fault.SystemFault.TheVariants.{NoStep}
use Rattle.steps.specs.Answers.{first, state_refusal, step_refusal, hidden_refusal, move_answer, fitting_step, both_answer}
use Rattle.steps.specs.Meaning.{Str, Transitions, Independence}
use Rattle.steps.proofs.Answered.{step_shaped}
use Rattle.layers.specs.Mask.{stops, mask_transitions, mask_independence}
use Rattle.layers.specs.Promises.{Listed, Shaped, AnswersOnStep, AnswersOnBoth, MaskAnswers}
use Rattle.layers.proofs.Promises.{hides_from, hides_to, shows_not}

-- a string that is no step is told before all else
pub no_step_told : (t : Transitions) (x : Str) (p : ℕ) → t.bad_step x ≡ Some p
    → step_refusal t x ≡ Some (Inner (NoStep p))
no_step_told t x p e = ap (λ o. step_refusal (record t { bad_step = λ _. o }) x) e

inner_not_masked : {B A : Type 0} (f : SystemFault) (r : Result A MaskFault) → r ≡ Err (Inner f) → r ≡ Err Masked → B
inner_not_masked f r e g = let z : ◌≡◌ {A = ℕ} 0 1 = cc (sym e ∙ g) in absurd (omega arith)

told_after : {A : Type 0} (o : Option MaskFault) (f : MaskFault) (r : Result A MaskFault) → o ≡ Some f
    → first o r ≡ Err f
told_after o f r e = ap (λ o. first o r) e

told_second : {A : Type 0} (o h : Option MaskFault) (f : MaskFault) (r : Result A MaskFault) → o ≡ None → h ≡ Some f
    → first o (first h r) ≡ Err f
told_second o h f r e g = ap₂ (λ o h. first o (first h r)) e g

-- with the mask's test answered so for every string
abbrev tested : (t : Transitions) → Bool → Transitions
tested t h = record t { hidden = λ x. cond h true (t.hidden x); next = λ a x. cond h (Err 0) (t.next a x) }

module _ (ns : List ℕ) (names : all_names ns ≡ true) (t : Transitions) where
  -- by cases on the test
  by_test : {P : Type 0} (x : Str) → (Listed ns t x → stops ns t x ≡ true → P)
      → ((Listed ns t x → ⊥) → stops ns t x ≡ false → P) → P
  by_test {P} x holds fails = go (stops ns t x) refl
    where
      go : (b : Bool) → stops ns t x ≡ b → P
      go true e = holds (hides_to ns (t.label x).action names e) e
      go false e = fails (λ l. false≢true (sym e ∙ hides_from ns (t.label x).action names l)) e

  by_shape : {P : Type 0} (x : Str) → (Shaped ns t x → P) → ((p : ℕ) → t.bad_step x ≡ Some p → P) → P
  by_shape {P} x shaped unshaped = go (t.bad_step x) refl
    where
      go : (o : Option ℕ) → t.bad_step x ≡ o → P
      go None e = shaped e
      go (Some p) e = unshaped p e

  masked_told : (x : Str) → stops ns t x ≡ true → hidden_refusal (mask_transitions ns t) x ≡ Some Masked
  masked_told x e = ap (λ h. hidden_refusal (tested t h) x) e

  -- both answers tell a string that is no step
  abbrev BothTell : {A : Type 0} → (inside answer : Result A MaskFault) → ℕ → Type 0
  BothTell inside answer p = (answer ≡ Err (Inner (NoStep p))) × (inside ≡ Err (Inner (NoStep p)))

  on_step : {A : Type 0} (x : Str) (inside answer : Result A MaskFault) →
      (stops ns t x ≡ false → answer ≡ inside) →
      (Shaped ns t x → stops ns t x ≡ true → answer ≡ Err Masked) →
      ((p : ℕ) → t.bad_step x ≡ Some p → BothTell inside answer p) →
      AnswersOnStep ns t x inside answer
  on_step x inside answer passed stopped unshaped =
      record { unlisted = unlisted; masked = (to, from); no_step = λ p b. (unshaped p b).0 }
    where
      unlisted : (Listed ns t x → ⊥) → answer ≡ inside
      unlisted shows = passed (shows_not ns (t.label x).action names shows)

      to : answer ≡ Err Masked → (Shaped ns t x × Listed ns t x) ⊎ (inside ≡ Err Masked)
      to g =
          by_test x
          (λ l e. by_shape x (λ s. inl (s, l)) (λ p b. inner_not_masked (NoStep p) answer (unshaped p b).0 g))
          (λ other e. inr (sym (passed e) ∙ g))

      from : (Shaped ns t x × Listed ns t x) ⊎ (inside ≡ Err Masked) → answer ≡ Err Masked
      from (inl (s, l)) = stopped s (hides_from ns (t.label x).action names l)
      from (inr g) =
          by_test x
          (λ l e. by_shape x (λ s. stopped s e) (λ p b. inner_not_masked (NoStep p) inside (unshaped p b).1 g))
          (λ other e. passed e ∙ g)

  on_both : {A : Type 0} (x y : Str) (inside answer : Result A MaskFault) →
      (stops ns t x ≡ false → stops ns t y ≡ false → answer ≡ inside) →
      (Shaped ns t x → Shaped ns t y → (stops ns t x ≡ true) ⊎ (stops ns t y ≡ true) → answer ≡ Err Masked) →
      ((p : ℕ) → t.bad_step x ≡ Some p → BothTell inside answer p) →
      ((p : ℕ) → Shaped ns t x → t.bad_step y ≡ Some p → BothTell inside answer p) →
      AnswersOnBoth ns t x y inside answer
  on_both {A} x y inside answer passed stopped no_first no_second =
      record {
        unlisted = λ first second. passed (shows_not ns (t.label x).action names first)
            (shows_not ns (t.label y).action names second);
        masked = (to, from);
        no_first = λ p b. (no_first p b).0;
        no_second = λ p s b. (no_second p s b).0;
      }
    where
      -- both have the shape of steps, or the answer is not that one is masked
      shaped : {P : Type 0} (r : Result A MaskFault) → r ≡ Err Masked →
          ((p : ℕ) → BothTell inside answer p → r ≡ Err (Inner (NoStep p))) → (Shaped ns t x → Shaped ns t y → P) → P
      shaped r g told both =
          by_shape x
          (λ s. by_shape y (both s) (λ p b. inner_not_masked (NoStep p) r (told p (no_second p s b)) g))
          (λ p b. inner_not_masked (NoStep p) r (told p (no_first p b)) g)

      to : answer ≡ Err Masked
          → (Shaped ns t x × Shaped ns t y × (Listed ns t x ⊎ Listed ns t y)) ⊎ (inside ≡ Err Masked)
      to g =
          by_test x
          (λ l e. shaped answer g (λ p h. h.0) (λ s u. inl (s, u, inl l)))
          (λ other e. by_test y (λ l f. shaped answer g (λ p h. h.0) (λ s u. inl (s, u, inr l)))
          (λ none f. inr (sym (passed e f) ∙ g)))

      from : (Shaped ns t x × Shaped ns t y × (Listed ns t x ⊎ Listed ns t y)) ⊎ (inside ≡ Err Masked)
          → answer ≡ Err Masked
      from (inl (s, u, inl l)) = stopped s u (inl (hides_from ns (t.label x).action names l))
      from (inl (s, u, inr l)) = stopped s u (inr (hides_from ns (t.label y).action names l))
      from (inr g) =
          by_test x
          (λ l e. shaped inside g (λ p h. h.1) (λ s u. stopped s u (inl e)))
          (λ other e. by_test y (λ l f. shaped inside g (λ p h. h.1) (λ s u. stopped s u (inr f)))
          (λ none f. passed e f ∙ g))

  -- what is asked of one step, and then r inside and r' of the mask
  of_one : {A : Type 0} (x : Str) (r r' : Result A MaskFault) → (stops ns t x ≡ false → r' ≡ r) →
      AnswersOnStep ns t x
      (first (step_refusal t x) (first (hidden_refusal t x) r))
      (first (step_refusal t x) (first (hidden_refusal (mask_transitions ns t) x) r'))
  of_one x r r' same =
      on_step x _ _
      (λ e. ap₂ (λ h r. first (step_refusal t x) (first (hidden_refusal (tested t h) x) r)) e (same e))
      (λ s e. ap₂ (λ o h. first o (first h r')) (step_shaped t x s) (masked_told x e))
      (λ p b. (told_after _ _ _ (no_step_told t x p b), told_after _ _ _ (no_step_told t x p b)))

  -- of two steps
  of_both : {A : Type 0} (x y : Str) (r r' : Result A MaskFault)
      → (stops ns t x ≡ false → stops ns t y ≡ false → r' ≡ r) →
      AnswersOnBoth ns t x y (both_answer t x y r) (both_answer (mask_transitions ns t) x y r')
  of_both {A} x y r r' same =
      on_both x y _ _
      (λ e f. ap₂ (λ h k. first (step_refusal t x)
      (first (step_refusal t y)
      (first (hidden_refusal (tested t h) x) (first (hidden_refusal (tested t k) y) r')))) e f
      ∙ ap (both_answer t x y) (same e f))
      (λ s u which. ap₂
      (λ o q. first o
      (first q (first (hidden_refusal (mask_transitions ns t) x)
      (first (hidden_refusal (mask_transitions ns t) y) r')))) (step_shaped t x s) (step_shaped t y u)
      ∙ either which)
      (λ p b. (told_after _ _ _ (no_step_told t x p b), told_after _ _ _ (no_step_told t x p b)))
      (λ p s b. (
        told_second _ _ _ _ (step_shaped t x s) (no_step_told t y p b),
        told_second _ _ _ _ (step_shaped t x s) (no_step_told t y p b),
      ))
    where
      behind : (b : Bool) (k : Option MaskFault) → k ≡ Some Masked
          → first (hidden_refusal (record t { hidden = λ _. b }) x) (first k r') ≡ Err Masked
      behind true k e = refl
      behind false k e = told_after k Masked r' e

      either : (stops ns t x ≡ true) ⊎ (stops ns t y ≡ true)
          → first (hidden_refusal (mask_transitions ns t) x) (first (hidden_refusal (mask_transitions ns t) y) r')
          ≡ Err Masked
      either (inl e) = told_after _ Masked _ (masked_told x e)
      either (inr f) = behind (cond (stops ns t x) true (t.hidden x)) _ (masked_told y f)

  pub mask_answers : (i : Independence) →
      MaskAnswers ns t i (mask_transitions ns t) (mask_independence ns t i)
  mask_answers i =
      record {
        state = λ s. refl;
        step = λ x. of_one x (Ok tt) (Ok tt) (λ e. refl);
        label = λ x. of_one x (Ok (t.label x)) (Ok (t.label x)) (λ e. refl);
        next = λ a x n. of_one x _ _
            (λ e. ap (λ h. first (state_refusal t a) (move_answer (cond h (Err 0) (t.next a x)) n)) e);
        independent = λ x y. of_both x y _ _ (λ e f. ap₂ (λ h k. Ok (is_some (cond (h || k) None (i.left x y)))) e f);
        residual = λ x y n. of_both x y _ _ (λ e f. ap₂ (λ h k. fitting_step (cond (h || k) None (i.left x y)) n) e f);
        back = λ x z n. of_both x z _ _ (λ e f. ap₂ (λ h k. fitting_step (cond (h || k) None (i.back x z)) n) e f);
      }
