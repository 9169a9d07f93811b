-- How the calls on a page come out, by the sheet's standing and its replay.
use Rattle.std.proofs.Common.{◌≡◌, ℕ, ◌+◌, ◌-◌, ◌<◌, ◌≤◌, false, ltb, leb, [], length, take, set, Some, None, Ok, Err, Result, sym, refl, ap, ◌∙◌, arith}
use Rattle.std.proofs.lemmas.Bool.{both_ways, cond-true, cond-false, lt-ltb, le-ltb, le-leb}
use Rattle.steps.specs.declared.fault.MaskFault.{MaskFault}
use Rattle.steps.specs.Meaning.{Str, Transitions, Independence}
use Rattle.steps.specs.Laws.{Laws}
use Rattle.steps.specs.Answers.{state_answer, next_answer, fitting_state}
use Rattle.steps.proofs.Answered.{ok_not_err, next_ok, state_ok, some_not_none}
use Rattle.bench.specs.declared.fault.BenchFault.{BenchFault}
use Rattle.bench.specs.declared.fault.BenchFault.TheVariants.{WrongStanding, System, Full, NoSuchStep}
use Rattle.bench.specs.declared.sheet.Standing.{Standing}
use Rattle.bench.specs.declared.sheet.Standing.TheVariants.{Blank, Open, Released}
use Rattle.bench.specs.Page.{Page}
use Rattle.byte_strings.specs.Fitted.{list_within}
use Rattle.bench.specs.Replay.{replayed, end_answer, ended}
use Rattle.bench.specs.Calls.{Outcome, then, from_system, when_open, when_standing, unless_released, opened, added, withdrawn}

pub then_err : {A B : Type 0} (r : Result A BenchFault) (k : A → Result B BenchFault) (f : BenchFault) → Err f ≡ r → then r k ≡ Err f
then_err r k f e = sym (ap (λ w. then w k) e)

pub then_ok : {A B : Type 0} (r : Result A BenchFault) (k : A → Result B BenchFault) (a : A) → Ok a ≡ r → then r k ≡ k a
then_ok r k a e = sym (ap (λ w. then w k) e)

module _ (p : Page) where
  pub not_open : (o : Outcome) → (p.standing ≡ Open → ⊥) → when_open p o ≡ Err (WrongStanding 1)
  not_open o h = go p.standing h
    where
      go : (s : Standing) → (s ≡ Open → ⊥) → elim s as (λ _. Outcome) [ Blank ↦ Err (WrongStanding 1) | Open ↦ o | Released ↦ Err (WrongStanding 1) ] ≡ Err (WrongStanding 1)
      go Blank n = refl
      go Open n = absurd (n refl)
      go Released n = refl

  pub is_open : (o : Outcome) → p.standing ≡ Open → when_open p o ≡ o
  is_open o e = ap (λ s. elim s as (λ _. Outcome) [ Blank ↦ Err (WrongStanding 1) | Open ↦ o | Released ↦ Err (WrongStanding 1) ]) e

  pub was_released : (o : Outcome) → p.standing ≡ Released → unless_released p o ≡ Err (WrongStanding 1)
  was_released o e = ap (λ s. elim s as (λ _. Outcome) [ Blank ↦ o | Open ↦ o | Released ↦ Err (WrongStanding 1) ]) e

  pub was_not_released : (o : Outcome) → (p.standing ≡ Released → ⊥) → unless_released p o ≡ o
  was_not_released o h = go p.standing h
    where
      go : (s : Standing) → (s ≡ Released → ⊥) → elim s as (λ _. Outcome) [ Blank ↦ o | Open ↦ o | Released ↦ Err (WrongStanding 1) ] ≡ o
      go Blank n = refl
      go Open n = refl
      go Released n = absurd (n refl)

-- a call on a sheet that has to have a standing, and to replay
standing_first : (t : Transitions) (s : Standing) (p : Page) (k : Str → Outcome) → when_standing s p (then (end_answer t p) k) ≡ then (ended t s p) k
standing_first t s p k = go s p.standing
  where
    go : (s r : Standing) → elim s as (λ _. Outcome) [
      | Blank ↦ elim r as (λ _. Outcome) [ Blank ↦ then (end_answer t p) k | Open ↦ Err (WrongStanding 1) | Released ↦ Err (WrongStanding 1) ]
      | Open ↦ elim r as (λ _. Outcome) [ Blank ↦ Err (WrongStanding 1) | Open ↦ then (end_answer t p) k | Released ↦ Err (WrongStanding 1) ]
      | Released ↦ elim r as (λ _. Outcome) [ Blank ↦ Err (WrongStanding 1) | Open ↦ Err (WrongStanding 1) | Released ↦ then (end_answer t p) k ]
    ] ≡ then (elim s as (λ _. Result Str BenchFault) [
      | Blank ↦ elim r as (λ _. Result Str BenchFault) [ Blank ↦ end_answer t p | Open ↦ Err (WrongStanding 1) | Released ↦ Err (WrongStanding 1) ]
      | Open ↦ elim r as (λ _. Result Str BenchFault) [ Blank ↦ Err (WrongStanding 1) | Open ↦ end_answer t p | Released ↦ Err (WrongStanding 1) ]
      | Released ↦ elim r as (λ _. Result Str BenchFault) [ Blank ↦ Err (WrongStanding 1) | Open ↦ Err (WrongStanding 1) | Released ↦ end_answer t p ]
    ]) k
    go Blank Blank = refl
    go Blank Open = refl
    go Blank Released = refl
    go Open Blank = refl
    go Open Open = refl
    go Open Released = refl
    go Released Blank = refl
    go Released Open = refl
    go Released Released = refl

-- such a sheet has that standing
pub stands : (t : Transitions) (s : Standing) (p : Page) (a : Str) → Ok a ≡ ended t s p → (p.standing ≡ s) × (Ok a ≡ end_answer t p)
stands t s p a = go s p.standing
  where
    go : (s r : Standing) → Ok a ≡ elim s as (λ _. Result Str BenchFault) [
      | Blank ↦ elim r as (λ _. Result Str BenchFault) [ Blank ↦ end_answer t p | Open ↦ Err (WrongStanding 1) | Released ↦ Err (WrongStanding 1) ]
      | Open ↦ elim r as (λ _. Result Str BenchFault) [ Blank ↦ Err (WrongStanding 1) | Open ↦ end_answer t p | Released ↦ Err (WrongStanding 1) ]
      | Released ↦ elim r as (λ _. Result Str BenchFault) [ Blank ↦ Err (WrongStanding 1) | Open ↦ Err (WrongStanding 1) | Released ↦ end_answer t p ]
    ] → (r ≡ s) × (Ok a ≡ end_answer t p)
    go Blank Blank e = (refl, e)
    go Blank Open e = ok_not_err a _ e
    go Blank Released e = ok_not_err a _ e
    go Open Blank e = ok_not_err a _ e
    go Open Open e = (refl, e)
    go Open Released e = ok_not_err a _ e
    go Released Blank e = ok_not_err a _ e
    go Released Open e = ok_not_err a _ e
    go Released Released e = (refl, e)

pub ends_standing : (t : Transitions) (s : Standing) (p : Page) (a : Str) → p.standing ≡ s → Ok a ≡ end_answer t p → Ok a ≡ ended t s p
ends_standing t s p a is e =
    e ∙ sym (go s)
    ∙ sym (ap (λ (r : Standing). elim s as (λ _. Result Str BenchFault) [
      | Blank ↦ elim r as (λ _. Result Str BenchFault) [ Blank ↦ end_answer t p | Open ↦ Err (WrongStanding 1) | Released ↦ Err (WrongStanding 1) ]
      | Open ↦ elim r as (λ _. Result Str BenchFault) [ Blank ↦ Err (WrongStanding 1) | Open ↦ end_answer t p | Released ↦ Err (WrongStanding 1) ]
      | Released ↦ elim r as (λ _. Result Str BenchFault) [ Blank ↦ Err (WrongStanding 1) | Open ↦ Err (WrongStanding 1) | Released ↦ end_answer t p ]
    ]) is)
  where
    go : (s : Standing) → elim s as (λ _. Result Str BenchFault) [
      | Blank ↦ elim s as (λ _. Result Str BenchFault) [ Blank ↦ end_answer t p | Open ↦ Err (WrongStanding 1) | Released ↦ Err (WrongStanding 1) ]
      | Open ↦ elim s as (λ _. Result Str BenchFault) [ Blank ↦ Err (WrongStanding 1) | Open ↦ end_answer t p | Released ↦ Err (WrongStanding 1) ]
      | Released ↦ elim s as (λ _. Result Str BenchFault) [ Blank ↦ Err (WrongStanding 1) | Open ↦ Err (WrongStanding 1) | Released ↦ end_answer t p ]
    ] ≡ end_answer t p
    go Blank = refl
    go Open = refl
    go Released = refl

-- it is stopped, or goes on from the end
module _ (t : Transitions) (s : Standing) (p : Page) (k : Str → Outcome) where
  pub stopped : (f : BenchFault) → Err f ≡ ended t s p → when_standing s p (then (end_answer t p) k) ≡ Err f
  stopped f e = standing_first t s p k ∙ then_err (ended t s p) k f e

  pub goes_on : (a : Str) → Ok a ≡ ended t s p → when_standing s p (then (end_answer t p) k) ≡ k a
  goes_on a e = standing_first t s p k ∙ then_ok (ended t s p) k a e

-- an opening
module _ (t : Transitions) (p : Page) (s : Str) (fresh : p.standing ≡ Released → ⊥) where
  told : Result (Unit {0}) MaskFault → Outcome
  told r = elim r [ Ok _ ↦ Ok (record { answer = []; page = record { standing = Open; len = 0; start = s; rows = p.rows } }) | Err f ↦ Err (System f) ]

  pub opened_refused : (f : MaskFault) → Err f ≡ state_answer t s → opened t s p ≡ Err (System f)
  unfolding told
  opened_refused f e = was_not_released p _ fresh ∙ sym (ap told e)

  pub opened_at : Ok tt ≡ state_answer t s → opened t s p ≡ Ok (record { answer = []; page = record { standing = Open; len = 0; start = s; rows = p.rows } })
  unfolding told
  opened_at e = was_not_released p _ fresh ∙ sym (ap told e)

-- an add
module _ (t : Transitions) (p : Page) (x : Str) (n : ℕ) (a : Str) (end : Ok a ≡ ended t Open p) where
  pub added_full : 32 ≤ p.len → added t x n p ≡ Err Full
  added_full h = goes_on t Open p _ a end ∙ cond-false (ltb p.len 32) _ _ (le-ltb p.len 32 h)

  room : p.len < 32 → added t x n p ≡ then (from_system (next_answer t a x n)) (λ b. Ok (record { answer = b; page = record { standing = Open; len = p.len + 1; start = p.start; rows = set p.rows p.len x } }))
  room h = goes_on t Open p _ a end ∙ cond-true (ltb p.len 32) _ _ (lt-ltb p.len 32 h)

  pub added_refused : (f : MaskFault) → p.len < 32 → next_answer t a x n ≡ Err f → added t x n p ≡ Err (System f)
  added_refused f h e = room h ∙ then_err _ _ (System f) (sym (ap from_system e))

  pub added_last : (b : Str) → p.len < 32 → next_answer t a x n ≡ Ok b → added t x n p ≡ Ok (record { answer = b; page = record { standing = Open; len = p.len + 1; start = p.start; rows = set p.rows p.len x } })
  added_last b h e = room h ∙ then_ok _ _ b (sym (ap from_system e))

-- a withdrawal
module _ (t : Transitions) (p : Page) (n : ℕ) (z : Str) (end : Ok z ≡ ended t Open p) where
  pub withdrawn_none : p.len ≡ 0 → withdrawn t n p ≡ Err (NoSuchStep 0)
  withdrawn_none h = goes_on t Open p _ z end ∙ cond-false (ltb 0 p.len) _ _ (le-ltb 0 p.len (omega arith))

  shorter : (0 < p.len) → withdrawn t n p ≡ then (replayed t p.start (take (p.len - 1) p.rows)) (λ a. then (from_system (fitting_state a n)) (λ b. Ok (record { answer = b; page = record { standing = Open; len = p.len - 1; start = p.start; rows = p.rows } })))
  shorter h = goes_on t Open p _ z end ∙ cond-true (ltb 0 p.len) _ _ (lt-ltb 0 p.len h)

  pub withdrawn_stopped : (f : BenchFault) → 0 < p.len → Err f ≡ replayed t p.start (take (p.len - 1) p.rows) → withdrawn t n p ≡ Err f
  withdrawn_stopped f h e = shorter h ∙ then_err _ _ f e

  pub withdrawn_refused : (a : Str) (f : MaskFault) → 0 < p.len → Ok a ≡ replayed t p.start (take (p.len - 1) p.rows) → fitting_state a n ≡ Err f → withdrawn t n p ≡ Err (System f)
  withdrawn_refused a f h e r = shorter h ∙ then_ok _ _ a e ∙ then_err _ _ (System f) (sym (ap from_system r))

  pub withdrawn_last : (a b : Str) → 0 < p.len → Ok a ≡ replayed t p.start (take (p.len - 1) p.rows) → fitting_state a n ≡ Ok b → withdrawn t n p ≡ Ok (record { answer = b; page = record { standing = Open; len = p.len - 1; start = p.start; rows = p.rows } })
  withdrawn_last a b h e r = shorter h ∙ then_ok _ _ a e ∙ then_ok _ _ b (sym (ap from_system r))

-- what the laws say of lengths: an accepted state or step fits its place
module _ {t : Transitions} {i : Independence} (laws : Laws t i) where
  pub state_held : (s : Str) → Ok tt ≡ state_answer t s → None ≡ list_within 256 s → ⊥
  state_held s e none =
      let short = ((laws.state_refusals s).0 (state_ok t s (sym e))).1 in
      some_not_none s (sym (cond-true (leb (length s) 256) (Some s) None (le-leb _ _ short)) ∙ sym none)

  pub step_held : (a x b : Str) (n : ℕ) → next_answer t a x n ≡ Ok b → false ≡ leb (length x) 64 → ⊥
  step_held a x b n e none =
      let f = next_ok t a x b n e in
      let short = ((laws.step_refusals x).0 (f.shaped, f.shown)).1 in
      both_ways (leb (length x) 64) (sym none) (le-leb _ _ short)
