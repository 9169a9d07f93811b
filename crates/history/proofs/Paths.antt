-- Runs all of whose states and steps are within the limits, as a replay goes along them. Assumes the laws of a step system where it says so.
use Rattle.std.proofs.Common.{◌≡◌, ℕ, zero, suc, ◌+◌, ◌<◌, ◌≤◌, leb, ◌⊎◌, List, [], ◌∷◌, ◌++◌, length, take, Some, None, Ok, Err, Option, Result, sym, refl, ap, ◌∙◌, subst, inl, inr, arith}
use Rattle.std.proofs.lemmas.Bool.{cond-true, cond-false, le-leb, lt-leb, cases_lt}
use Rattle.steps.specs.declared.fault.MaskFault.{MaskFault}
use Rattle.steps.specs.declared.fault.MaskFault.TheVariants.{Inner}
use Rattle.steps.specs.declared.fault.SystemFault.TheVariants.{NoState, StateTooLong}
use Rattle.steps.specs.Meaning.{Str, Transitions, Independence}
use Rattle.steps.specs.Laws.{Laws}
use Rattle.steps.specs.Answers.{first, hidden_refusal, state_refusal, move_answer, next_answer, told_length}
use Rattle.steps.proofs.Answered.{ok_not_err, next_ok, step_shaped, step_shown}
use Rattle.runs.specs.Run.{Run}
use Rattle.runs.specs.Run.Run.{stays, goes}
use Rattle.runs.proofs.Runs.{run_none}
use Rattle.joins.specs.Steps.{ShortStep, ShortSteps}
use Rattle.bench.specs.declared.fault.BenchFault.TheVariants.{Stopped}
use Rattle.bench.specs.Replay.{followed}
use Rattle.bench.specs.Join.{led}
use Rattle.bench.proofs.Following.{then_followed}

pub data Path (t : Transitions) : Str → List Str → Str → Type 0 where
  here : {a : Str} → Path t a [] a
  along : {a x b : Str} {xs : List Str} {c : Str} → next_answer t a x 256 ≡ Ok b → Path t b xs c → Path t a (x ∷ xs) c

module _ (t : Transitions) where
  pub path_append : {a : Str} {xs : List Str} {b : Str} {ys : List Str} {c : Str} → Path t a xs b → Path t b ys c → Path t a (xs ++ ys) c
  path_append here q = q
  path_append (along n p) q = along n (path_append p q)

  pub path_split : (xs : List Str) {a : Str} {ys : List Str} {c : Str} → Path t a (xs ++ ys) c → (b : Str) × Path t a xs b × Path t b ys c
  path_split [] {a} p = (a, here, p)
  path_split (x ∷ xs) (along n p) = let s = path_split xs p in (s.0, along n s.1, s.2)

  -- a path of one step is that step
  pub path_step : {a x b : Str} → Path t a (x ∷ []) b → next_answer t a x 256 ≡ Ok b
  path_step (along n here) = n

  -- a replay goes along a path
  pub followed_path : (xs : List Str) (a : Str) (k : ℕ) (b : Str) → followed t a xs k ≡ Ok b → Path t a xs b
  followed_path [] a k b e = let same : a ≡ b = cc in subst (λ c. Path t a [] c) same here
  followed_path (x ∷ xs) a k b e = go (next_answer t a x 256) refl e (λ c. followed_path xs c (k + 1) b)
    where
      go : (r : Result Str MaskFault) → next_answer t a x 256 ≡ r → then_followed t r xs k ≡ Ok b → ((c : Str) → followed t c xs (k + 1) ≡ Ok b → Path t c xs b) → Path t a (x ∷ xs) b
      go (Ok c) n p ih = along n (ih c p)
      go (Err f) n p ih = ok_not_err b (Stopped k f) (sym p)

  pub path_followed : {a : Str} {xs : List Str} {b : Str} → Path t a xs b → (k : ℕ) → followed t a xs k ≡ Ok b
  path_followed here k = refl
  path_followed (along {xs = xs} n p) k = ap (λ r. then_followed t r xs k) n ∙ path_followed p (k + 1)

  then_led : Result Str MaskFault → List Str → Result Str MaskFault
  then_led r xs = elim r [ Ok b ↦ led t b xs | Err f ↦ Err f ]

  pub led_path : (xs : List Str) (a b : Str) → led t a xs ≡ Ok b → Path t a xs b
  unfolding then_led
  led_path [] a b e = let same : a ≡ b = cc in subst (λ c. Path t a [] c) same here
  led_path (x ∷ xs) a b e = go (next_answer t a x 256) refl e (λ c. led_path xs c b)
    where
      go : (r : Result Str MaskFault) → next_answer t a x 256 ≡ r → then_led r xs ≡ Ok b → ((c : Str) → led t c xs ≡ Ok b → Path t c xs b) → Path t a (x ∷ xs) b
      go (Ok c) n p ih = along n (ih c p)
      go (Err f) n p ih = ok_not_err b f (sym p)

-- a state that is not refused
state_shaped : (t : Transitions) (a : Str) → t.bad_state a ≡ None → state_refusal t a ≡ None
state_shaped t a e = ap (λ o. elim o as (λ _. Option MaskFault) [ None ↦ None | Some p ↦ Some (Inner (NoState p)) ]) e

module _ {t : Transitions} {i : Independence} (laws : Laws t i) where
  -- what is answered where the meaning has a state that follows
  asked : (a x b : Str) → ShortStep t x → t.bad_state a ≡ None → t.next a x ≡ Ok b → next_answer t a x 256 ≡ move_answer (Ok b) 256
  asked a x b short from leads =
      let sound = (laws.step_refusals x).1 short in
      ap (λ o. first o (first (hidden_refusal t x) (first (state_refusal t a) (move_answer (t.next a x) 256)))) (step_shaped t x sound.0)
      ∙ ap (λ o. first o (first (state_refusal t a) (move_answer (t.next a x) 256))) (step_shown t x sound.1)
      ∙ ap (λ o. first o (move_answer (t.next a x) 256)) (state_shaped t a from)
      ∙ ap (λ r. move_answer r 256) leads

  pub next_within : (a x b : Str) → ShortStep t x → t.bad_state a ≡ None → t.next a x ≡ Ok b → length b ≤ 256 → next_answer t a x 256 ≡ Ok b
  next_within a x b short from leads fits = asked a x b short from leads ∙ cond-true (leb (length b) 256) (Ok b) (Err (Inner (StateTooLong (told_length (length b))))) (le-leb _ _ fits)

  pub next_over : (a x b : Str) → ShortStep t x → t.bad_state a ≡ None → t.next a x ≡ Ok b → 256 < length b → next_answer t a x 256 ≡ Err (Inner (StateTooLong (told_length (length b))))
  next_over a x b short from leads over = asked a x b short from leads ∙ cond-false (leb (length b) 256) (Ok b) (Err (Inner (StateTooLong (told_length (length b))))) (lt-leb _ _ over)

  -- a state that follows within the limit is not refused
  pub next_state : (a x b : Str) → t.next a x ≡ Ok b → length b ≤ 256 → t.bad_state b ≡ None
  next_state a x b leads fits = (laws.state_refusals b).1 ((laws.leads a x b leads).2, fits)

  told_state : (a x b : Str) → next_answer t a x 256 ≡ Ok b → (t.next a x ≡ Ok b) × (t.bad_state b ≡ None)
  told_state a x b n = let f = next_ok t a x b 256 n in (f.leads, next_state a x b f.leads f.short)

  -- a path is a run, and its states are within the limit
  pub path_run : {a : Str} {xs : List Str} {b : Str} → t.bad_state a ≡ None → Path t a xs b → Run t a xs b × (t.bad_state b ≡ None)
  path_run {a} s here = (stays ((laws.state_refusals a).0 s).0, s)
  path_run {a} s (along {x = x} {b = b} n p) =
      let f = told_state a x b n in
      let r = path_run f.1 p in
      (goes f.0 r.0, r.1)

  -- the steps of a path are steps within the limit
  pub path_steps : {a : Str} {xs : List Str} {b : Str} → Path t a xs b → ShortSteps t xs
  path_steps here = tt
  path_steps {a} (along {x = x} {b = b} n p) =
      let f = next_ok t a x b 256 n in
      ((laws.step_refusals x).0 (f.shaped, f.shown), path_steps p)

  pub path_short : {a : Str} {xs : List Str} {b : Str} → t.bad_state a ≡ None → Path t a xs b → (m : ℕ) (c : Str) → Run t a (take m xs) c → length c ≤ 256
  path_short {a} s here zero c r = subst (λ d. length d ≤ 256) (run_none t r) ((laws.state_refusals a).0 s).1
  path_short {a} s here (suc m) c r = subst (λ d. length d ≤ 256) (run_none t r) ((laws.state_refusals a).0 s).1
  path_short {a} s (along n p) zero c r = subst (λ d. length d ≤ 256) (run_none t r) ((laws.state_refusals a).0 s).1
  path_short {a} s (along {x = x} {b = b} {xs = xs} n p) (suc m) c (goes n' r) =
      let f = told_state a x b n in
      path_short f.1 p m c (subst (λ d. Run t d (take m xs) c) (cc (f.0, n')) r)

  -- A run of steps within the limit that no path goes along: the first state that is too long.
  pub record TooLong (a : Str) (xs : List Str) (f : MaskFault) : Type 0 where
    pub count : ℕ
    pub state : Str
    pub run : Run t a (take count xs) state
    pub over : 256 < length state
    pub told : f ≡ Inner (StateTooLong (told_length (length state)))
    pub before : (m : ℕ) (c : Str) → m < count → Run t a (take m xs) c → length c ≤ 256

  pub led_too_long : (xs : List Str) (a d : Str) (f : MaskFault) → t.bad_state a ≡ None → ShortSteps t xs → Run t a xs d → led t a xs ≡ Err f → TooLong a xs f
  unfolding then_led
  led_too_long [] a d f s short r e = ok_not_err a f e
  led_too_long (x ∷ xs) a d f s short (goes {b = b} n r) e = go (cases_lt 256 (length b)) (λ fits. led_too_long xs b d f (next_state a x b n fits) short.1 r)
    where
      none_before : (c : Str) → Run t a [] c → length c ≤ 256
      none_before c q = subst (λ v. length v ≤ 256) (run_none t q) ((laws.state_refusals a).0 s).1

      over_now : 256 < length b → (m : ℕ) (c : Str) → m < 1 → Run t a (take m (x ∷ xs)) c → length c ≤ 256
      over_now long zero c lt q = none_before c q
      over_now long (suc m) c lt q = absurd (omega arith)

      over_later : (h : TooLong b xs f) (m : ℕ) (c : Str) → m < suc h.count → Run t a (take m (x ∷ xs)) c → length c ≤ 256
      over_later h zero c lt q = none_before c q
      over_later h (suc m) c lt (goes n' q) = h.before m c (omega arith) (subst (λ v. Run t v (take m xs) c) (cc (n, n')) q)

      go : (256 < length b) ⊎ (length b ≤ 256) → (length b ≤ 256 → led t b xs ≡ Err f → TooLong b xs f) → TooLong a (x ∷ xs) f
      go (inl long) ih =
          let told : Err (Inner (StateTooLong (told_length (length b)))) ≡ Err f = sym (ap (λ o. then_led t o xs) (next_over a x b short.0 s n long)) ∙ e in
          record { count = 1; state = b; run = goes n (stays (laws.leads a x b n).2); over = long; told = cc; before = over_now long }
      go (inr fits) ih =
          let h = ih fits (sym (ap (λ o. then_led t o xs) (next_within a x b short.0 s n fits)) ∙ e) in
          record { count = suc h.count; state = h.state; run = goes n h.run; over = h.over; told = h.told; before = over_later h }
