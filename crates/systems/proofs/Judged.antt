-- What a system answers whose meaning goes by the rules.
-- An answer is `first` of the refusals in their order, and the rules say of each refusal when it arises. So each
-- question is split as the answer is: both directions of a promise follow from what the split has found.
use Rattle.std.proofs.Common.{◌≡◌, ℕ, ◌≤◌, ◌<◌, min, Bool, true, false, ◌⊎◌, ◌↔◌, inl, inr, List, length, is_some, Some, None, Ok, Err, Option, Result, nat_le, refl, sym, ap, ◌∙◌, subst}
use Rattle.std.proofs.lemmas.Bool.{false≢true, cond-true, cond-false, le-leb, lt-leb, leb-true, leb-false}
use Rattle.actions.specs.declared.pairs.Pair.{Pair}
use Rattle.steps.specs.declared.label.Label.{Label}
use Rattle.steps.specs.declared.fault.MaskFault.{MaskFault}
use Rattle.steps.specs.declared.fault.MaskFault.TheVariants.{Masked, Inner}
use Rattle.steps.specs.declared.fault.SystemFault.TheVariants.{NoState, NoStep, Impossible, StateTooLong, StepTooLong}
use Rattle.steps.specs.Meaning.{Str, Transitions, Independence}
use Rattle.steps.specs.Laws.{state_limit, step_limit}
use Rattle.steps.specs.Answers.{first, state_refusal, step_refusal, hidden_refusal, told_length, fitting_state, move_answer, fitting_step, state_answer, label_answer, next_answer, both_answer, independent_answer}
use Rattle.steps.proofs.Answered.{ok_not_err, some_not_none, step_shaped, step_shown, both_ok}
use Rattle.systems.specs.Design.{Design}
use Rattle.systems.specs.Rules.{Moves, LeftOf, WithinState, WithinStep, NoStateAt, NoStepAt, StuckAt}
use Rattle.systems.specs.Possible.{ShownAs, Stopped, Allowed, StepRefused, StateRefused, Accepted, Refused, BothRefused, Independent, StepAnswered, NoneAnswered, AnswerRefused, Possible}
use Rattle.nets.specs.Rules.{AreBytes}

-- what the rules say of each part of a meaning
pub record ByRules (d : Design) (ps : List Pair) (ns : List ℕ) (t : Transitions) (i : Independence) : Type 0 where
  pub within_step : (x : Str) → (t.bad_step x ≡ None) ↔ WithinStep d x
  pub step_place : (x : Str) (p : ℕ) → (t.bad_step x ≡ Some p) ↔ NoStepAt d x p
  pub stopped : (x : Str) → WithinStep d x → (t.hidden x ≡ true) ↔ Stopped d ps ns x
  pub shows : (x : Str) (c : ℕ) → WithinStep d x → ((t.label x).action ≡ c) ↔ ShownAs d ps ns x c
  pub within_state : (s : Str) → (t.bad_state s ≡ None) ↔ WithinState d s
  pub state_place : (s : Str) (p : ℕ) → AreBytes s → (t.bad_state s ≡ Some p) ↔ NoStateAt d s p
  pub moves : (a x b : Str) → t.hidden x ≡ false → (t.next a x ≡ Ok b) ↔ Moves d a x b
  pub stuck : (a x : Str) (p : ℕ) → t.hidden x ≡ false → WithinState d a → WithinStep d x →
      (t.next a x ≡ Err p) ↔ (((b : Str) → Moves d a x b → ⊥) × StuckAt d a x p)
  pub left : (x y z : Str) → t.hidden x ≡ false → t.hidden y ≡ false → (i.left x y ≡ Some z) ↔ LeftOf d x y z
  pub back : (x z y : Str) → t.hidden x ≡ false → t.hidden z ≡ false → (i.back x z ≡ Some y) ↔ LeftOf d y x z

err_same : {A F : Type 0} (f g : F) → ◌≡◌ {A = Result A F} (Err f) (Err g) → f ≡ g
err_same f g e = cc

ok_same : {A F : Type 0} (a b : A) → ◌≡◌ {A = Result A F} (Ok a) (Ok b) → a ≡ b
ok_same a b e = cc

-- an answer that is refused is this refusal
refused_as : {A : Type 0} (P : MaskFault → Type 0) (r : Result A MaskFault) (f g : MaskFault) → P f → r ≡ Err f
    → r ≡ Err g → P g
refused_as P r f g p e h = subst P (err_same f g (sym e ∙ h)) p

not_both : {A B : Type 0} (r : Result A MaskFault) (a : A) (f : MaskFault) → r ≡ Ok a → r ≡ Err f → B
not_both r a f e h = ok_not_err a f (sym e ∙ h)

true_not_false : {B : Type 0} (b : Bool) → b ≡ true → b ≡ false → B
true_not_false b e f = absurd (false≢true (sym f ∙ e))

-- refusals as they are told
no_step_told : (t : Transitions) (x : Str) (p : ℕ) → t.bad_step x ≡ Some p → step_refusal t x ≡ Some (Inner (NoStep p))
no_step_told t x p e = ap (λ o. step_refusal (record t { bad_step = λ _. o }) x) e

masked_told : (t : Transitions) (x : Str) → t.hidden x ≡ true → hidden_refusal t x ≡ Some Masked
masked_told t x e = ap (λ h. hidden_refusal (record t { hidden = λ _. h }) x) e

no_state_told : (t : Transitions) (s : Str) (p : ℕ) → t.bad_state s ≡ Some p
    → state_refusal t s ≡ Some (Inner (NoState p))
no_state_told t s p e = ap (λ o. state_refusal (record t { bad_state = λ _. o }) s) e

state_shaped : (t : Transitions) (s : Str) → t.bad_state s ≡ None → state_refusal t s ≡ None
state_shaped t s e = ap (λ o. state_refusal (record t { bad_state = λ _. o }) s) e

behind : {A : Type 0} (o : Option MaskFault) (r : Result A MaskFault) → o ≡ None → first o r ≡ r
behind o r e = ap (λ o. first o r) e

at_once : {A : Type 0} (o : Option MaskFault) (f : MaskFault) (r : Result A MaskFault) → o ≡ Some f → first o r ≡ Err f
at_once o f r e = ap (λ o. first o r) e

-- a state or a step that fits, or not
state_fits : (b : Str) (n : ℕ) → length b ≤ min n state_limit → fitting_state b n ≡ Ok b
state_fits b n h = cond-true (nat_le (length b) (min n state_limit)) (Ok b)
    (Err (Inner (StateTooLong (told_length (length b))))) (le-leb (length b) (min n state_limit) h)

state_too_long : (b : Str) (n : ℕ) → min n state_limit < length b
    → fitting_state b n ≡ Err (Inner (StateTooLong (told_length (length b))))
state_too_long b n h = cond-false (nat_le (length b) (min n state_limit)) (Ok b)
    (Err (Inner (StateTooLong (told_length (length b))))) (lt-leb (length b) (min n state_limit) h)

step_fits : (z : Str) (n : ℕ) → length z ≤ min n step_limit → fitting_step (Some z) n ≡ Ok (Some z)
step_fits z n h = cond-true (nat_le (length z) (min n step_limit)) (Ok (Some z))
    (Err (Inner (StepTooLong (told_length (length z))))) (le-leb (length z) (min n step_limit) h)

step_too_long : (z : Str) (n : ℕ) → min n step_limit < length z
    → fitting_step (Some z) n ≡ Err (Inner (StepTooLong (told_length (length z))))
step_too_long z n h = cond-false (nat_le (length z) (min n step_limit)) (Ok (Some z))
    (Err (Inner (StepTooLong (told_length (length z))))) (lt-leb (length z) (min n step_limit) h)

by_length : {P : Type 0} (k l : ℕ) → (k ≤ l → P) → (l < k → P) → P
by_length {P} k l short long = go (nat_le k l) refl
  where
    go : (b : Bool) → nat_le k l ≡ b → P
    go true e = short (leb-true k l e)
    go false e = long (leb-false k l e)

module _ (d : Design) (ps : List Pair) (ns : List ℕ) (t : Transitions) (i : Independence)
    (r : ByRules d ps ns t i) where
  by_shape : {P : Type 0} (x : Str) → (t.bad_step x ≡ None → P) → ((p : ℕ) → t.bad_step x ≡ Some p → P) → P
  by_shape {P} x none some = go (t.bad_step x) refl
    where
      go : (o : Option ℕ) → t.bad_step x ≡ o → P
      go None e = none e
      go (Some p) e = some p e

  by_mask : {P : Type 0} (x : Str) → (t.hidden x ≡ true → P) → (t.hidden x ≡ false → P) → P
  by_mask {P} x holds fails = go (t.hidden x) refl
    where
      go : (b : Bool) → t.hidden x ≡ b → P
      go true e = holds e
      go false e = fails e

  by_state : {P : Type 0} (s : Str) → (t.bad_state s ≡ None → P) → ((p : ℕ) → t.bad_state s ≡ Some p → P) → P
  by_state {P} s none some = go (t.bad_state s) refl
    where
      go : (o : Option ℕ) → t.bad_state s ≡ o → P
      go None e = none e
      go (Some p) e = some p e

  -- an allowed step is neither refused as a step nor hidden
  allowed : (x : Str) → t.bad_step x ≡ None → t.hidden x ≡ false → Allowed d ps ns x
  allowed x e f =
      let w = (r.within_step x).0 e in
      record { step = w; shown = λ s. true_not_false (t.hidden x) ((r.stopped x w).1 s) f }

  shape_of : (x : Str) → Allowed d ps ns x → t.bad_step x ≡ None
  shape_of x a = (r.within_step x).1 a.step

  shown_of : (x : Str) → Allowed d ps ns x → t.hidden x ≡ false
  shown_of x a = by_mask x (λ h. absurd (a.shown ((r.stopped x a.step).0 h))) (λ h. h)

  -- one step: it is allowed, or refused
  by_step : {P : Type 0} (x : Str) → (Allowed d ps ns x → P) → ((f : MaskFault) → StepRefused d ps ns x f → P) → P
  by_step x holds fails =
      by_shape x
      (λ e. by_mask x (λ h. let w = (r.within_step x).0 e in fails Masked (StepRefused.masked w ((r.stopped x w).0 h)))
      (λ h. holds (allowed x e h)))
      (λ p e. fails (Inner (NoStep p)) (StepRefused.no_step ((r.step_place x p).0 e)))

  step_allowed : {A : Type 0} (x : Str) (rest : Result A MaskFault) → Allowed d ps ns x
      → first (step_refusal t x) (first (hidden_refusal t x) rest) ≡ rest
  step_allowed x rest a = behind _ _ (step_shaped t x (shape_of x a)) ∙ behind _ _ (step_shown t x (shown_of x a))

  step_refused : {A : Type 0} (x : Str) (rest : Result A MaskFault) (f : MaskFault) → StepRefused d ps ns x f
      → first (step_refusal t x) (first (hidden_refusal t x) rest) ≡ Err f
  step_refused x rest _ (StepRefused.no_step {p} n) = at_once _ _ _ (no_step_told t x p ((r.step_place x p).1 n))
  step_refused x rest _ (StepRefused.masked w s) =
      behind _ _ (step_shaped t x ((r.within_step x).1 w)) ∙ at_once _ _ _ (masked_told t x ((r.stopped x w).1 s))

  -- what is asked of one step alone
  step_exactly : {A : Type 0} (x : Str) (v : A)
      → (first (step_refusal t x) (first (hidden_refusal t x) (Ok v)) ≡ Ok v) ↔ Allowed d ps ns x
  step_exactly x v = (
    λ e. by_step x (λ a. a) (λ f s. not_both _ v f e (step_refused x (Ok v) f s)),
    step_allowed x (Ok v),
  )

  step_refused_exactly : {A : Type 0} (x : Str) (v : A) (f : MaskFault)
      → (first (step_refusal t x) (first (hidden_refusal t x) (Ok v)) ≡ Err f) ↔ StepRefused d ps ns x f
  step_refused_exactly x v f = (
    λ e. by_step x
        (λ a. not_both _ v f (step_allowed x (Ok v) a) e)
        (λ g s. refused_as (StepRefused d ps ns x) _ g f s (step_refused x (Ok v) g s) e),
    step_refused x (Ok v) f,
  )

  labels_exactly : (x : Str) (l : Label) → (label_answer t x ≡ Ok l) ↔ (Allowed d ps ns x × ShownAs d ps ns x l.action)
  labels_exactly x l = (
    λ e. by_step x
        (λ a. (
          a,
          (r.shows x l.action a.step).0
              (ap (λ l. l.action) (ok_same (t.label x) l (sym (step_allowed x (Ok (t.label x)) a) ∙ e))),
        ))
        (λ f s. not_both _ l f e (step_refused x (Ok (t.label x)) f s)),
    λ h. step_allowed x (Ok (t.label x)) h.0
        ∙ ap (λ c. Ok (record { action = c })) ((r.shows x l.action h.0.step).1 h.1),
  )

  -- states
  states_exactly : (s : Str) → (state_answer t s ≡ Ok tt) ↔ WithinState d s
  states_exactly s = (
    λ e. by_state s (r.within_state s).0
        (λ p n. not_both _ tt (Inner (NoState p)) e (at_once _ _ _ (no_state_told t s p n))),
    λ w. behind _ _ (state_shaped t s ((r.within_state s).1 w)),
  )

  state_refused : (s : Str) (f : MaskFault) → AreBytes s → StateRefused d ps ns s f
      → state_refusal t s ≡ Some f
  state_refused s _ bytes (StateRefused.no_state {p} n) = no_state_told t s p ((r.state_place s p bytes).1 n)

  states_refused : (s : Str) (f : MaskFault) → AreBytes s
      → (state_answer t s ≡ Err f) ↔ StateRefused d ps ns s f
  states_refused s f bytes = (
    λ e. by_state s
        (λ n. not_both _ tt f (behind _ _ (state_shaped t s n)) e)
        (λ p n. refused_as (StateRefused d ps ns s) _ _ f (StateRefused.no_state ((r.state_place s p bytes).0 n))
        (at_once _ _ _ (no_state_told t s p n)) e),
    λ h. at_once _ _ _ (state_refused s f bytes h),
  )

  -- what follows a state by an allowed step
  after_state : (a x : Str) (n : ℕ) → Result Str MaskFault
  after_state a x n = first (state_refusal t a) (move_answer (t.next a x) n)

  by_move : {P : Type 0} (a x : Str) → ((b : Str) → t.next a x ≡ Ok b → P) → ((p : ℕ) → t.next a x ≡ Err p → P) → P
  by_move {P} a x ok err = go (t.next a x) refl
    where
      go : (m : Result Str ℕ) → t.next a x ≡ m → P
      go (Ok b) e = ok b e
      go (Err p) e = err p e

  next_allowed : (a x : Str) (n : ℕ) → Allowed d ps ns x → t.bad_state a ≡ None
      → next_answer t a x n ≡ move_answer (t.next a x) n
  next_allowed a x n al e =
      step_allowed x (first (state_refusal t a) (move_answer (t.next a x) n)) al ∙ behind _ _ (state_shaped t a e)

  next_moved : (a x : Str) (n : ℕ) (b : Str) → Allowed d ps ns x → t.bad_state a ≡ None → t.next a x ≡ Ok b
      → next_answer t a x n ≡ fitting_state b n
  next_moved a x n b al e m = next_allowed a x n al e ∙ ap (λ m. move_answer m n) m

  next_stuck : (a x : Str) (n p : ℕ) → Allowed d ps ns x → t.bad_state a ≡ None → t.next a x ≡ Err p
      → next_answer t a x n ≡ Err (Inner (Impossible p))
  next_stuck a x n p al e m = next_allowed a x n al e ∙ ap (λ m. move_answer m n) m

  next_no_state : (a x : Str) (n p : ℕ) → Allowed d ps ns x → t.bad_state a ≡ Some p
      → next_answer t a x n ≡ Err (Inner (NoState p))
  next_no_state a x n p al e = step_allowed x (first (state_refusal t a) (move_answer (t.next a x) n)) al
      ∙ at_once _ _ _ (no_state_told t a p e)

  next_refused_step : (a x : Str) (n : ℕ) (f : MaskFault) → StepRefused d ps ns x f → next_answer t a x n ≡ Err f
  next_refused_step a x n f s = step_refused x (first (state_refusal t a) (move_answer (t.next a x) n)) f s

  next_exactly : (a x b : Str) (n : ℕ) → (next_answer t a x n ≡ Ok b) ↔ Accepted d ps ns a x n b
  next_exactly a x b n = (to, from)
    where
      fits : (c : Str) → Allowed d ps ns x → t.bad_state a ≡ None → t.next a x ≡ Ok c → next_answer t a x n ≡ Ok b
          → length c ≤ min n state_limit → Accepted d ps ns a x n b
      fits c al e m h short =
          let same : c ≡ b = ok_same c b (sym (next_moved a x n c al e m ∙ state_fits c n short) ∙ h) in
          subst (Accepted d ps ns a x n) same
          (record {
            step = al;
            state = (r.within_state a).0 e;
            moves = (r.moves a x c (shown_of x al)).0 m;
            fits = short;
          })

      to : next_answer t a x n ≡ Ok b → Accepted d ps ns a x n b
      to h =
          by_step x
          (λ al. by_state a
          (λ e. by_move a x
          (λ c m. by_length (length c) (min n state_limit) (fits c al e m h)
          (λ long. not_both _ b _ h (next_moved a x n c al e m ∙ state_too_long c n long)))
          (λ p m. not_both _ b _ h (next_stuck a x n p al e m)))
          (λ p e. not_both _ b _ h (next_no_state a x n p al e)))
          (λ f s. not_both _ b _ h (next_refused_step a x n f s))

      from : Accepted d ps ns a x n b → next_answer t a x n ≡ Ok b
      from h =
          next_moved a x n b h.step ((r.within_state a).1 h.state) ((r.moves a x b (shown_of x h.step)).1 h.moves)
          ∙ state_fits b n h.fits

  next_refused_exactly : (a x : Str) (n : ℕ) (f : MaskFault) → AreBytes a
      → (next_answer t a x n ≡ Err f) ↔ Refused d ps ns a x n f
  next_refused_exactly a x n f bytes = (to, from f)
    where
      told : (g : MaskFault) → Refused d ps ns a x n g → next_answer t a x n ≡ Err g → next_answer t a x n ≡ Err f
          → Refused d ps ns a x n f
      told g why e h = refused_as (Refused d ps ns a x n) _ g f why e h

      to : next_answer t a x n ≡ Err f → Refused d ps ns a x n f
      to h =
          by_step x
          (λ al. by_state a
          (λ e. by_move a x
          (λ c m. by_length (length c) (min n state_limit)
          (λ short. not_both _ c f (next_moved a x n c al e m ∙ state_fits c n short) h)
          (λ long. told _
          (Refused.too_long c al ((r.within_state a).0 e) ((r.moves a x c (shown_of x al)).0 m) long)
          (next_moved a x n c al e m ∙ state_too_long c n long) h))
          (λ p m.
          let w = (r.within_state a).0 e in
          let k = (r.stuck a x p (shown_of x al) w al.step).0 m in
          told _ (Refused.not_possible al w k.0 k.1) (next_stuck a x n p al e m) h))
          (λ p e. told _ (Refused.state al (StateRefused.no_state ((r.state_place a p bytes).0 e)))
          (next_no_state a x n p al e) h))
          (λ g s. told g (Refused.step s) (next_refused_step a x n g s) h)

      from : (g : MaskFault) → Refused d ps ns a x n g → next_answer t a x n ≡ Err g
      from g (Refused.step s) = next_refused_step a x n g s
      from g (Refused.state al none) =
          step_allowed x (first (state_refusal t a) (move_answer (t.next a x) n)) al
          ∙ at_once _ _ _ (state_refused a g bytes none)
      from _ (Refused.not_possible {p} al w nowhere k) =
          next_stuck a x n p al ((r.within_state a).1 w) ((r.stuck a x p (shown_of x al) w al.step).1 (nowhere, k))
      from _ (Refused.too_long b al w m long) =
          next_moved a x n b al ((r.within_state a).1 w) ((r.moves a x b (shown_of x al)).1 m) ∙ state_too_long b n long

  -- two steps: both are allowed, or they are refused
  by_both : {P : Type 0} (x y : Str) → (Allowed d ps ns x → Allowed d ps ns y → P)
      → ((f : MaskFault) → BothRefused d ps ns x y f → P) → P
  by_both x y holds fails =
      by_shape x
      (λ e. by_shape y
      (λ g. let w = (r.within_step x).0 e in
      let v = (r.within_step y).0 g in
      by_mask x
      (λ h. fails Masked (BothRefused.masked w v (inl ((r.stopped x w).0 h))))
      (λ h. by_mask y (λ k. fails Masked (BothRefused.masked w v (inr ((r.stopped y v).0 k))))
      (λ k. holds (allowed x e h) (allowed y g k))))
      (λ p g. fails (Inner (NoStep p)) (BothRefused.no_second ((r.within_step x).0 e) ((r.step_place y p).0 g))))
      (λ p e. fails (Inner (NoStep p)) (BothRefused.no_first ((r.step_place x p).0 e)))

  both_allowed : {A : Type 0} (x y : Str) (rest : Result A MaskFault) → Allowed d ps ns x → Allowed d ps ns y
      → both_answer t x y rest ≡ rest
  both_allowed x y rest a b = both_ok t x y rest (shape_of x a) (shape_of y b) (shown_of x a) (shown_of y b)

  both_refused : {A : Type 0} (x y : Str) (rest : Result A MaskFault) (f : MaskFault) → BothRefused d ps ns x y f
      → both_answer t x y rest ≡ Err f
  both_refused x y rest _ (BothRefused.no_first {p} n) = at_once _ _ _ (no_step_told t x p ((r.step_place x p).1 n))
  both_refused x y rest _ (BothRefused.no_second {p} w n) =
      behind _ _ (step_shaped t x ((r.within_step x).1 w)) ∙ at_once _ _ _ (no_step_told t y p ((r.step_place y p).1 n))
  both_refused {A} x y rest _ (BothRefused.masked w v which) =
      behind _ _ (step_shaped t x ((r.within_step x).1 w)) ∙ behind _ _ (step_shaped t y ((r.within_step y).1 v))
      ∙ either which
    where
      second : (h : Bool) (k : Option MaskFault) → k ≡ Some Masked
          → first {A = A} (hidden_refusal (record t { hidden = λ _. h }) x) (first k rest) ≡ Err Masked
      second true k e = refl
      second false k e = at_once k Masked rest e

      either : Stopped d ps ns x ⊎ Stopped d ps ns y
          → first (hidden_refusal t x) (first (hidden_refusal t y) rest) ≡ Err Masked
      either (inl s) = at_once _ _ _ (masked_told t x ((r.stopped x w).1 s))
      either (inr s) = second (t.hidden x) (hidden_refusal t y) (masked_told t y ((r.stopped y v).1 s))

  -- whether something is left, as a truth value
  by_left : {P : Type 0} (x y : Str) → ((z : Str) → i.left x y ≡ Some z → P) → (i.left x y ≡ None → P) → P
  by_left {P} x y some none = go (i.left x y) refl
    where
      go : (o : Option Str) → i.left x y ≡ o → P
      go (Some z) e = some z e
      go None e = none e

  bool_apart : {B : Type 0} → ◌≡◌ {A = Result Bool MaskFault} (Ok true) (Ok false) → B
  bool_apart e = absurd (false≢true (sym (ok_same true false e)))

  independent_is : (x y z : Str) → Allowed d ps ns x → Allowed d ps ns y → i.left x y ≡ Some z
      → independent_answer t i x y ≡ Ok true
  independent_is x y z a b e =
      both_allowed x y (Ok (is_some (i.left x y))) a b ∙ ap (λ (o : Option Str). Ok (is_some o)) e

  dependent_is : (x y : Str) → Allowed d ps ns x → Allowed d ps ns y → i.left x y ≡ None
      → independent_answer t i x y ≡ Ok false
  dependent_is x y a b e = both_allowed x y (Ok (is_some (i.left x y))) a b ∙ ap (λ (o : Option Str). Ok (is_some o)) e

  left_of : (x y z : Str) → Allowed d ps ns x → Allowed d ps ns y → (i.left x y ≡ Some z) ↔ LeftOf d x y z
  left_of x y z a b = r.left x y z (shown_of x a) (shown_of y b)

  none_left : (x y : Str) → Allowed d ps ns x → Allowed d ps ns y → i.left x y ≡ None → Independent d ps ns x y → ⊥
  none_left x y a b e h = some_not_none h.0 (sym ((left_of x y h.0 a b).1 h.1) ∙ e)

  independents_exactly : (x y : Str)
      → (independent_answer t i x y ≡ Ok true) ↔ (Allowed d ps ns x × Allowed d ps ns y × Independent d ps ns x y)
  independents_exactly x y = (
    λ h. by_both x y
        (λ a b. by_left x y
        (λ z e. (a, b, (z, (left_of x y z a b).0 e)))
        (λ e. bool_apart (sym h ∙ dependent_is x y a b e)))
        (λ f s. not_both _ true f h (both_refused x y (Ok (is_some (i.left x y))) f s)),
    λ h. independent_is x y h.2.0 h.0 h.1 ((left_of x y h.2.0 h.0 h.1).1 h.2.1),
  )

  dependents_exactly : (x y : Str)
      → (independent_answer t i x y ≡ Ok false)
      ↔ (Allowed d ps ns x × Allowed d ps ns y × (Independent d ps ns x y → ⊥))
  dependents_exactly x y = (
    λ h. by_both x y
        (λ a b. by_left x y
        (λ z e. bool_apart (sym (independent_is x y z a b e) ∙ h))
        (λ e. (a, b, none_left x y a b e)))
        (λ f s. not_both _ false f h (both_refused x y (Ok (is_some (i.left x y))) f s)),
    λ h. by_left x y (λ z e. absurd (h.2 (z, (left_of x y z h.0 h.1).0 e))) (λ e. dependent_is x y h.0 h.1 e),
  )

  independents_refused : (x y : Str) (f : MaskFault) → (independent_answer t i x y ≡ Err f) ↔ BothRefused d ps ns x y f
  independents_refused x y f = (
    λ h. by_both x y
        (λ a b. not_both _ (is_some (i.left x y)) f (both_allowed x y (Ok (is_some (i.left x y))) a b) h)
        (λ g s. refused_as (BothRefused d ps ns x y) _ g f s (both_refused x y (Ok (is_some (i.left x y))) g s) h),
    both_refused x y (Ok (is_some (i.left x y))) f,
  )

  -- a step that is answered on two, as what is left and back are
  module _ (x y : Str) (o : Option Str) (Is : Str → Type 0)
      (exactly : (z : Str) → Allowed d ps ns x → Allowed d ps ns y → (o ≡ Some z) ↔ Is z) (n : ℕ) where
    by_answer : {P : Type 0} → ((z : Str) → o ≡ Some z → P) → (o ≡ None → P) → P
    by_answer {P} some none = go o refl
      where
        go : (q : Option Str) → o ≡ q → P
        go (Some z) e = some z e
        go None e = none e

    some_is : (z : Str) → Allowed d ps ns x → Allowed d ps ns y → o ≡ Some z
        → both_answer t x y (fitting_step o n) ≡ fitting_step (Some z) n
    some_is z a b e = both_allowed x y (fitting_step o n) a b ∙ ap (λ o. fitting_step o n) e

    none_is : Allowed d ps ns x → Allowed d ps ns y → o ≡ None → both_answer t x y (fitting_step o n) ≡ Ok None
    none_is a b e = both_allowed x y (fitting_step o n) a b ∙ ap (λ o. fitting_step o n) e

    some_same : (z w : Str) → ◌≡◌ {A = Option Str} (Some z) (Some w) → z ≡ w
    some_same z w e = cc

    answers_exactly : (z : Str) → (both_answer t x y (fitting_step o n) ≡ Ok (Some z)) ↔ StepAnswered d ps ns x y Is n z
    answers_exactly z = (
      λ h. by_both x y
          (λ a b. by_answer
          (λ w e. by_length (length w) (min n step_limit)
          (λ short. subst (StepAnswered d ps ns x y Is n)
          (some_same w z (ok_same (Some w) (Some z) (sym (some_is w a b e ∙ step_fits w n short) ∙ h)))
          (record { first = a; second = b; is = (exactly w a b).0 e; fits = short }))
          (λ long. not_both _ (Some z) _ h (some_is w a b e ∙ step_too_long w n long)))
          (λ e. some_not_none z (ok_same (Some z) None (sym h ∙ none_is a b e))))
          (λ f s. not_both _ (Some z) f h (both_refused x y (fitting_step o n) f s)),
      λ h. some_is z h.first h.second ((exactly z h.first h.second).1 h.is) ∙ step_fits z n h.fits,
    )

    nones_exactly : (both_answer t x y (fitting_step o n) ≡ Ok None) ↔ NoneAnswered d ps ns x y Is
    nones_exactly = (
      λ h. by_both x y
          (λ a b. by_answer
          (λ w e. by_length (length w) (min n step_limit)
          (λ short. some_not_none w (ok_same (Some w) None (sym (some_is w a b e ∙ step_fits w n short) ∙ h)))
          (λ long. not_both _ None _ h (some_is w a b e ∙ step_too_long w n long)))
          (λ e. record { first = a; second = b; none = λ z is. some_not_none z (sym ((exactly z a b).1 is) ∙ e) }))
          (λ f s. not_both _ None f h (both_refused x y (fitting_step o n) f s)),
      λ h. by_answer
          (λ w e. absurd (h.none w ((exactly w h.first h.second).0 e)))
          (λ e. none_is h.first h.second e),
    )

    answers_refused : (f : MaskFault)
        → (both_answer t x y (fitting_step o n) ≡ Err f) ↔ AnswerRefused d ps ns x y Is n f
    answers_refused f = (to, from f)
      where
        told : (g : MaskFault) → AnswerRefused d ps ns x y Is n g → both_answer t x y (fitting_step o n) ≡ Err g
            → both_answer t x y (fitting_step o n) ≡ Err f → AnswerRefused d ps ns x y Is n f
        told g why e h = refused_as (AnswerRefused d ps ns x y Is n) _ g f why e h

        to : both_answer t x y (fitting_step o n) ≡ Err f → AnswerRefused d ps ns x y Is n f
        to h =
            by_both x y
            (λ a b. by_answer
            (λ w e. by_length (length w) (min n step_limit)
            (λ short. not_both _ (Some w) f (some_is w a b e ∙ step_fits w n short) h)
            (λ long. told _ (AnswerRefused.too_long w a b ((exactly w a b).0 e) long)
            (some_is w a b e ∙ step_too_long w n long) h))
            (λ e. not_both _ None f (none_is a b e) h))
            (λ g s. told g (AnswerRefused.steps s) (both_refused x y (fitting_step o n) g s) h)

        from : (g : MaskFault) → AnswerRefused d ps ns x y Is n g → both_answer t x y (fitting_step o n) ≡ Err g
        from g (AnswerRefused.steps s) = both_refused x y (fitting_step o n) g s
        from _ (AnswerRefused.too_long z a b is long) = some_is z a b ((exactly z a b).1 is) ∙ step_too_long z n long

  back_of : (x z y : Str) → Allowed d ps ns x → Allowed d ps ns z → (i.back x z ≡ Some y) ↔ LeftOf d y x z
  back_of x z y a b = r.back x z y (shown_of x a) (shown_of z b)

  -- all that is asked
  pub possible : Possible d ps ns t i
  possible =
      record {
        next = next_exactly;
        next_refused = next_refused_exactly;
        state = states_exactly;
        state_refused = states_refused;
        step = λ x. step_exactly x tt;
        step_refused = λ x f. step_refused_exactly x tt f;
        label = labels_exactly;
        label_refused = λ x f. step_refused_exactly x (t.label x) f;
        independent = independents_exactly;
        dependent = dependents_exactly;
        independent_refused = independents_refused;
        residual = λ x y n z. answers_exactly x y (i.left x y) (LeftOf d x y) (left_of x y) n z;
        no_residual = λ x y n. nones_exactly x y (i.left x y) (LeftOf d x y) (left_of x y) n;
        residual_refused = λ x y n f. answers_refused x y (i.left x y) (LeftOf d x y) (left_of x y) n f;
        back = λ x z n y. answers_exactly x z (i.back x z) (λ y. LeftOf d y x z) (back_of x z) n y;
        no_back = λ x z n. nones_exactly x z (i.back x z) (λ y. LeftOf d y x z) (back_of x z) n;
        back_refused = λ x z n f. answers_refused x z (i.back x z) (λ y. LeftOf d y x z) (back_of x z) n f;
      }
