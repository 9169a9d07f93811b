-- Terms move by the transition rules, whatever their definitions are: each has a body that is sound, so the theorems on
-- terms over sound definitions hold of all. What a question answers is then gone through refusal by refusal: the laws
-- say
-- which strings are refused, and the theorems what is told of them, and of the others.
use Rattle.std.proofs.Common.{◌≡◌, ℕ, min, Bool, true, false, cond, length, take, is_some, Some, None, Ok, Err, Option, Result, IsTrue, IsErr, nat_le, sym, refl, ap, ap₂, ◌∙◌, subst}
use Rattle.std.specs.Prelude.{IsErrAnd}
use Rattle.std.proofs.lemmas.Bool.{leb-true, leb-false}
use Rattle.steps.specs.declared.label.Label.{Label}
use Rattle.steps.specs.declared.fault.MaskFault.{MaskFault}
use Rattle.steps.specs.declared.fault.MaskFault.TheVariants.{Inner}
use Rattle.steps.specs.declared.fault.SystemFault.{SystemFault}
use Rattle.steps.specs.declared.fault.SystemFault.TheVariants.{NoState, NoStep, StateTooLong, StepTooLong}
use Rattle.steps.specs.Meaning.{Str}
use Rattle.steps.specs.Laws.{Laws, state_limit, step_limit}
use Rattle.steps.specs.Answers.{first, told_length, state_refusal, step_refusal, state_answer, step_answer, label_answer, move_answer, next_answer, both_answer, fitting_step, independent_answer, left_answer, back_answer}
use Rattle.ccs.specs.Beginning.{IsTerm, LongestBeginning}
use Rattle.ccs.specs.Reading.{read_proof}
use Rattle.ccs.specs.FollowLaws.{Goes}
use Rattle.ccs.specs.ReadingLaws.{StepFault}
use Rattle.ccs.specs.ResidualLaws.{Leaves}
use Rattle.ccs.specs.System.{sound_bodies, label_of, terms_transitions, terms_independence}
use Rattle.ccs.proofs.System.{terms_laws, next_by_rules, misfits_told, labels_shown, left_by_rules, back_undoes_left, states_are_terms, steps_are_proper}
use Rattle.ccs.proofs.Places.{state_place, step_place}
use Rattle.terms.specs.declared.terms.Terms.{Terms}
use Rattle.terms.specs.Contents.{terms_of}
use Rattle.terms.specs.Laws.Sound.{terms_sound}
use Rattle.terms.specs.Answers.{check_answer, state_check_answer, step_check_answer}
use Rattle.terms.specs.Rules.{MovesByRules, MisfitsByRules, LeavesByRules, StatePlacesByRules, StepPlacesByRules, State, Step, StateRules, StepRules, LabelRules, NextRules, StepSought, IndependentRules}
use Rattle.terms.specs.Rules.StateRules.{is_state, no_state}
use Rattle.terms.specs.Rules.StepRules.{is_step, no_step}
use Rattle.terms.specs.Rules.LabelRules.{shows, shows_nothing}
use Rattle.terms.specs.Rules.NextRules.{goes, by_no_step, from_no_state, misfits, goes_too_far}
use Rattle.terms.specs.Rules.StepSought.{one, none, first_no_step, second_no_step, one_too_long}
use Rattle.terms.specs.Rules.IndependentRules.{apart, together, first_none, second_none}

bodies_sound : (t : Terms) → IsTrue (sound_bodies (length (terms_of t)) (terms_of t))
bodies_sound t = terms_sound t.count t.bodies t.few t.sound

pub terms_move_by_rules : (t : Terms) → MovesByRules t
terms_move_by_rules t = next_by_rules (terms_of t) (bodies_sound t)

pub terms_misfits : (t : Terms) → MisfitsByRules t
terms_misfits t = misfits_told (terms_of t) (bodies_sound t)

pub terms_leave_by_rules : (t : Terms) → LeavesByRules t
terms_leave_by_rules t = left_by_rules

pub terms_state_places : (t : Terms) → StatePlacesByRules t
terms_state_places t = state_place (terms_of t)

pub terms_step_places : (t : Terms) → StepPlacesByRules t
terms_step_places t = step_place (terms_of t)

laws_of : (t : Terms) → Laws (terms_transitions (terms_of t)) terms_independence
laws_of t = terms_laws (terms_of t) (bodies_sound t)

-- what is not refused is a state, or a step, within the limit, and a state or step is not refused
unrefused_state : (t : Terms) (s : Str) → (terms_transitions (terms_of t)).bad_state s ≡ None → State (terms_of t) s
unrefused_state t s e = let h = ((laws_of t).state_refusals s).0 e in ((states_are_terms (terms_of t) s).0 h.0, h.1)

state_unrefused : (t : Terms) (s : Str) → State (terms_of t) s → (terms_transitions (terms_of t)).bad_state s ≡ None
state_unrefused t s h = ((laws_of t).state_refusals s).1 ((states_are_terms (terms_of t) s).1 h.0, h.1)

unrefused_step : (t : Terms) (x : Str) → (terms_transitions (terms_of t)).bad_step x ≡ None → Step x
unrefused_step t x e = let h = ((laws_of t).step_refusals x).0 (e, refl) in
    ((steps_are_proper (terms_of t) x).0 h.0, h.1)

step_unrefused : (t : Terms) (x : Str) → Step x → (terms_transitions (terms_of t)).bad_step x ≡ None
step_unrefused t x h = (((laws_of t).step_refusals x).1 ((steps_are_proper (terms_of t) x).1 h.0, h.1)).0

refused_state : (t : Terms) (s : Str) (p : ℕ) → (terms_transitions (terms_of t)).bad_state s ≡ Some p
    → State (terms_of t) s → ⊥
refused_state t s p e h = cc (sym (state_unrefused t s h) ∙ e)

refused_step : (t : Terms) (x : Str) (p : ℕ) → (terms_transitions (terms_of t)).bad_step x ≡ Some p → Step x → ⊥
refused_step t x p e h = cc (sym (step_unrefused t x h) ∙ e)

-- a refusal of a string, if it is refused
abbrev if_state : Option ℕ → Option MaskFault
if_state o = elim o [ None ↦ None | Some p ↦ Some (Inner (NoState p)) ]

abbrev if_step : Option ℕ → Option MaskFault
if_step o = elim o [ None ↦ None | Some p ↦ Some (Inner (NoStep p)) ]

pub state_rules : (t : Terms) (s : Str) → StateRules (terms_of t) s (state_answer (terms_transitions (terms_of t)) s)
state_rules t s = go ((terms_transitions (terms_of t)).bad_state s) refl
  where
    go : (o : Option ℕ) → (terms_transitions (terms_of t)).bad_state s ≡ o
        → StateRules (terms_of t) s (first (if_state o) (Ok tt))
    go None e = is_state (unrefused_state t s e)
    go (Some p) e = no_state (refused_state t s p e) ((terms_state_places t s p).0 e).place

pub step_rules : (t : Terms) (x : Str) → StepRules x (step_answer (terms_transitions (terms_of t)) x)
step_rules t x = go ((terms_transitions (terms_of t)).bad_step x) refl
  where
    go : (o : Option ℕ) → (terms_transitions (terms_of t)).bad_step x ≡ o → StepRules x (first (if_step o) (Ok tt))
    go None e = is_step (unrefused_step t x e)
    go (Some p) e = no_step (refused_step t x p e) ((terms_step_places t x p).0 e)

-- what a proof shows is what its step shows
shown_by_step : (t : Terms) (x : Str) → Step x → LabelRules x (Ok ((terms_transitions (terms_of t)).label x))
shown_by_step t x h =
    let same = ap (terms_transitions (terms_of t)).label (sym h.0.1) ∙ labels_shown (terms_of t) h.0.0 h.0.2 in
    subst (λ l. LabelRules x (Ok l)) (sym same) (shows h h.0.0 h.0.1 h.0.2)

pub label_rules : (t : Terms) (x : Str) → LabelRules x (label_answer (terms_transitions (terms_of t)) x)
label_rules t x = go ((terms_transitions (terms_of t)).bad_step x) refl
  where
    go : (o : Option ℕ) → (terms_transitions (terms_of t)).bad_step x ≡ o
        → LabelRules x (first (if_step o) (Ok ((terms_transitions (terms_of t)).label x)))
    go None e = shown_by_step t x (unrefused_step t x e)
    go (Some p) e = shows_nothing (refused_step t x p e) ((terms_step_places t x p).0 e)

pub next_rules : (t : Terms) (a x : Str) (n : ℕ)
    → NextRules (terms_of t) a x n (next_answer (terms_transitions (terms_of t)) a x n)
next_rules t a x n = by_step ((terms_transitions (terms_of t)).bad_step x) refl
  where
    by_room : (b : Str) → Step x → State (terms_of t) a → Goes (terms_of t) a x b → (c : Bool)
        → nat_le (length b) (min n state_limit) ≡ c
        → NextRules (terms_of t) a x n (cond c (Ok b) (Err (Inner (StateTooLong (told_length (length b))))))
    by_room b h g m true e = goes h g m (leb-true (length b) (min n state_limit) e)
    by_room b h g m false e = goes_too_far h g m (leb-false (length b) (min n state_limit) e)

    by_move : Step x → State (terms_of t) a → (r : Result Str ℕ) → (terms_transitions (terms_of t)).next a x ≡ r
        → NextRules (terms_of t) a x n (move_answer r n)
    by_move h g (Ok b) e = by_room b h g ((terms_move_by_rules t a x b).0 e)
        (nat_le (length b) (min n state_limit)) refl
    by_move h g (Err k) e =
        misfits h g g.0.0 h.0.0 g.0.1 h.0.1
        (terms_misfits t g.0.0 h.0.0 k g.0.2 h.0.2 h.0.3 (ap₂ (terms_transitions (terms_of t)).next g.0.1 h.0.1 ∙ e))

    by_state : Step x → (o : Option ℕ) → (terms_transitions (terms_of t)).bad_state a ≡ o
        → NextRules (terms_of t) a x n (first (if_state o) (move_answer ((terms_transitions (terms_of t)).next a x) n))
    by_state h None e = by_move h (unrefused_state t a e) ((terms_transitions (terms_of t)).next a x) refl
    by_state h (Some p) e = from_no_state h (refused_state t a p e) ((terms_state_places t a p).0 e).place

    by_step : (o : Option ℕ) → (terms_transitions (terms_of t)).bad_step x ≡ o
        → NextRules (terms_of t) a x n
        (first (if_step o)
        (first (state_refusal (terms_transitions (terms_of t)) a)
        (move_answer ((terms_transitions (terms_of t)).next a x) n)))
    by_step None e = by_state (unrefused_step t x e) ((terms_transitions (terms_of t)).bad_state a) refl
    by_step (Some p) e = by_no_step (refused_step t x p e) ((terms_step_places t x p).0 e)

-- a step that is sought, where one is found exactly where it is one
sought : (t : Terms) (x y : Str) (n : ℕ) (Sought : Str → Type 0) (o : Option Str) → ((z : Str) → o ≡ Some z → Sought z)
    → ((z : Str) → Sought z → o ≡ Some z)
    → StepSought x y Sought n (both_answer (terms_transitions (terms_of t)) x y (fitting_step o n))
sought t x y n Sought o found finds = by_first ((terms_transitions (terms_of t)).bad_step x) refl
  where
    by_room : Step x → Step y → (z : Str) → Sought z → (c : Bool) → nat_le (length z) (min n step_limit) ≡ c
        → StepSought x y Sought n (cond c (Ok (Some z)) (Err (Inner (StepTooLong (told_length (length z))))))
    by_room h g z s true e = one h g s (leb-true (length z) (min n step_limit) e)
    by_room h g z s false e = one_too_long h g s (leb-false (length z) (min n step_limit) e)

    by_answer : Step x → Step y → (p : Option Str) → o ≡ p → StepSought x y Sought n (fitting_step p n)
    by_answer h g None e = none h g (λ z s. cc (sym e ∙ finds z s))
    by_answer h g (Some z) e = by_room h g z (found z e) (nat_le (length z) (min n step_limit)) refl

    by_second : Step x → (q : Option ℕ) → (terms_transitions (terms_of t)).bad_step y ≡ q
        → StepSought x y Sought n (first (if_step q) (fitting_step o n))
    by_second h None e = by_answer h (unrefused_step t y e) o refl
    by_second h (Some p) e = second_no_step h (refused_step t y p e) ((terms_step_places t y p).0 e)

    by_first : (q : Option ℕ) → (terms_transitions (terms_of t)).bad_step x ≡ q
        → StepSought x y Sought n
        (first (if_step q) (first (step_refusal (terms_transitions (terms_of t)) y) (fitting_step o n)))
    by_first None e = by_second (unrefused_step t x e) ((terms_transitions (terms_of t)).bad_step y) refl
    by_first (Some p) e = first_no_step (refused_step t x p e) ((terms_step_places t x p).0 e)

pub residual_rules : (t : Terms) (x y : Str) (n : ℕ)
    → StepSought x y (Leaves x y) n (left_answer (terms_transitions (terms_of t)) terms_independence x y n)
residual_rules t x y n = sought t x y n (Leaves x y) (terms_independence.left x y) (λ z. (left_by_rules x y z).0)
    (λ z. (left_by_rules x y z).1)

pub back_rules : (t : Terms) (x z : Str) (n : ℕ)
    → StepSought x z (λ y. Leaves y x z) n (back_answer (terms_transitions (terms_of t)) terms_independence x z n)
back_rules t x z n =
    sought t x z n (λ y. Leaves y x z) (terms_independence.back x z)
    (λ y e. (left_by_rules y x z).0 ((back_undoes_left x y z).0 e))
    (λ y l. (back_undoes_left x y z).1 ((left_by_rules y x z).1 l))

pub independent_rules : (t : Terms) (x y : Str)
    → IndependentRules x y (independent_answer (terms_transitions (terms_of t)) terms_independence x y)
independent_rules t x y = by_first ((terms_transitions (terms_of t)).bad_step x) refl
  where
    by_answer : Step x → Step y → (o : Option Str) → terms_independence.left x y ≡ o
        → IndependentRules x y (Ok (is_some o))
    by_answer h g None e = together h g (λ z l. cc (sym e ∙ (left_by_rules x y z).1 l))
    by_answer h g (Some z) e = apart h g z ((left_by_rules x y z).0 e)

    by_second : Step x → (q : Option ℕ) → (terms_transitions (terms_of t)).bad_step y ≡ q
        → IndependentRules x y (first (if_step q) (Ok (is_some (terms_independence.left x y))))
    by_second h None e = by_answer h (unrefused_step t y e) (terms_independence.left x y) refl
    by_second h (Some p) e = second_none h (refused_step t y p e) ((terms_step_places t y p).0 e)

    by_first : (q : Option ℕ) → (terms_transitions (terms_of t)).bad_step x ≡ q
        → IndependentRules x y
        (first (if_step q)
        (first (step_refusal (terms_transitions (terms_of t)) y) (Ok (is_some (terms_independence.left x y)))))
    by_first None e = by_second (unrefused_step t x e) ((terms_transitions (terms_of t)).bad_step y) refl
    by_first (Some p) e = first_none (refused_step t x p e) ((terms_step_places t x p).0 e)

-- a check that refuses, and what is answered then
refusal_is : {A : Type 0} (r : Result A MaskFault) (f : SystemFault) → IsErr r × IsErrAnd r (λ g. g ≡ Inner f)
    → Err (Inner f) ≡ r
refusal_is (Ok x) f h = absurd h.1
refusal_is (Err g) f h = ap Err (sym h.1)

fault_is : (make : ℕ → SystemFault) (f : SystemFault) (o : Option ℕ) → Err f ≡ check_answer make o
    → (p : ℕ) × (o ≡ Some p) × (make p ≡ f)
fault_is make f None e = absurd (cc e)
fault_is make f (Some p) e = let same : f ≡ make p = cc e in (p, refl, sym same)

no_fault : (make : ℕ → SystemFault) (o : Option ℕ) → Ok tt ≡ check_answer make o → o ≡ None
no_fault make None e = refl
no_fault make (Some p) e = absurd (cc e)

module _ (t : Terms) where
  pub checked_is_step : (x : Str) → Ok tt ≡ step_check_answer x → Step x
  checked_is_step x e = unrefused_step t x (no_fault NoStep ((terms_transitions (terms_of t)).bad_step x) e)

  pub checked_is_state : (s : Str) → Ok tt ≡ state_check_answer (terms_of t) s → State (terms_of t) s
  checked_is_state s e = unrefused_state t s (no_fault NoState ((terms_transitions (terms_of t)).bad_state s) e)

  pub at_step_fault : {A : Type 0} (Rules : Result A MaskFault → Type 0) (x : Str)
      → ((p : ℕ) → (Step x → ⊥) → StepFault x p → Rules (Err (Inner (NoStep p))))
      → (r : Result A MaskFault) (f : SystemFault) → Err f ≡ step_check_answer x
      → IsErr r × IsErrAnd r (λ g. g ≡ Inner f)
      → Rules r
  at_step_fault Rules x rule r f e h =
      let fault = fault_is NoStep f ((terms_transitions (terms_of t)).bad_step x) e in
      subst Rules (ap (λ f. Err (Inner f)) fault.2 ∙ refusal_is r f h)
      (rule fault.0 (refused_step t x fault.0 fault.1) ((terms_step_places t x fault.0).0 fault.1))

  pub at_state_fault : {A : Type 0} (Rules : Result A MaskFault → Type 0) (s : Str)
      → ((p : ℕ) → (State (terms_of t) s → ⊥) → LongestBeginning (IsTerm (length (terms_of t))) (take state_limit s) p
      → Rules (Err (Inner (NoState p))))
      → (r : Result A MaskFault) (f : SystemFault) → Err f ≡ state_check_answer (terms_of t) s
      → IsErr r × IsErrAnd r (λ g. g ≡ Inner f) → Rules r
  at_state_fault Rules s rule r f e h =
      let fault = fault_is NoState f ((terms_transitions (terms_of t)).bad_state s) e in
      subst Rules (ap (λ f. Err (Inner f)) fault.2 ∙ refusal_is r f h)
      (rule fault.0 (refused_state t s fault.0 fault.1) ((terms_state_places t s fault.0).0 fault.1).place)

  pub label_of_step : (x : Str) (l : Label) → Ok tt ≡ step_check_answer x → l ≡ label_of (read_proof x)
      → LabelRules x (Ok l)
  label_of_step x l e f = subst (λ l. LabelRules x (Ok l)) (sym f) (shown_by_step t x (checked_is_step x e))
