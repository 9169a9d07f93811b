-- On a sheet of the right standing, no call is refused for a standing.
use Rattle.std.proofs.Common.{◌≡◌, ℕ, ◌+◌, ◌-◌, Bool, true, false, cond, ltb, leb, ◌&&◌, List, [], ◌∷◌, get_or, length, take, Some, None, Ok, Err, IfErr, Option, Result, sym, refl, subst, arith}
use Rattle.std.specs.Str.{bytes_eq}
use Rattle.byte_strings.specs.Buffer.{count}
use Rattle.steps.specs.Meaning.{Str, Transitions, Independence}
use Rattle.steps.specs.declared.fault.MaskFault.{MaskFault}
use Rattle.steps.specs.declared.fault.MaskFault.TheVariants.{Masked, Inner}
use Rattle.steps.specs.declared.fault.SystemFault.TheVariants.{NoState, NoStep, Impossible, StateTooLong, StepTooLong}
use Rattle.steps.specs.Answers.{state_answer, next_answer, fitting_state}
use Rattle.joins.specs.Exchange.{Pair, exchange_answer}
use Rattle.bench.specs.declared.fault.BenchFault.{BenchFault}
use Rattle.bench.specs.declared.fault.BenchFault.TheVariants.{WrongStanding, System, StartsDiffer, Stopped}
use Rattle.bench.specs.declared.sheet.Standing.{Standing}
use Rattle.bench.specs.declared.sheet.Standing.TheVariants.{Blank, Open, Released}
use Rattle.bench.specs.Page.{Page, steps_of}
use Rattle.bench.specs.Replay.{followed, replayed, end_answer}
use Rattle.bench.specs.Calls.{Outcome, answered, accepted, then, from_system, when_open, when_released, added, withdrawn, released, reopened}
use Rattle.bench.specs.Swap.{exchanged_on, swapped}
use Rattle.bench.specs.Join.{led, alike, fitting, surviving, unless_blank, pair_answer, joined}
use Rattle.bench.specs.Print.{sheet_text, printed}
use Rattle.bench.specs.Look.{when_begun, looked}
use Rattle.sheets.specs.Standing.{NotByStanding}

-- a call that is accepted, or refused for another reason than a standing
abbrev pub Fair : {A : Type 0} → Result A BenchFault → Type 0
Fair r = IfErr r NotByStanding

at_system : (f : MaskFault) → NotByStanding (System f)
at_system Masked = omega arith
at_system (Inner (NoState n)) = omega arith
at_system (Inner (NoStep n)) = omega arith
at_system (Inner (Impossible n)) = omega arith
at_system (Inner (StateTooLong n)) = omega arith
at_system (Inner (StepTooLong n)) = omega arith

of_system : {A : Type 0} (r : Result A MaskFault) → Fair (from_system r)
of_system (Ok a) = tt
of_system (Err f) = at_system f

after_all : {A B : Type 0} (r : Result A BenchFault) (k : A → Result B BenchFault) → Fair r → ((a : A) → Fair (k a)) → Fair (then r k)
after_all (Ok a) k h i = i a
after_all (Err f) k h i = h

either : {A : Type 0} (b : Bool) (r s : Result A BenchFault) → Fair r → Fair s → Fair (cond b r s)
either true r s h i = h
either false r s h i = i

steps_followed : (t : Transitions) (a : Str) (xs : List Str) (k : ℕ) → Fair (followed t a xs k)
steps_followed t a [] k = tt
steps_followed t a (x ∷ xs) k = go (next_answer t a x 256) (λ b. steps_followed t b xs (k + 1))
  where
    go : (r : Result Str MaskFault) → ((b : Str) → Fair (followed t b xs (k + 1))) → Fair (elim r as (λ _. Result Str BenchFault) [ Ok b ↦ followed t b xs (k + 1) | Err f ↦ Err (Stopped k f) ])
    go (Ok b) h = h b
    go (Err f) h = omega arith

steps_replayed : (t : Transitions) (a : Str) (xs : List Str) → Fair (replayed t a xs)
steps_replayed t a xs = go (state_answer t a)
  where
    go : (r : Result (Unit {0}) MaskFault) → Fair (elim r as (λ _. Result Str BenchFault) [ Ok _ ↦ followed t a xs 1 | Err f ↦ Err (Stopped 0 f) ])
    go (Ok u) = steps_followed t a xs 1
    go (Err f) = omega arith

module _ (p : Page) (o : Outcome) (h : Fair o) where
  if_open : p.standing ≡ Open → Fair (when_open p o)
  if_open is = subst (λ s. Fair (elim s as (λ _. Outcome) [ Blank ↦ Err (WrongStanding 1) | Open ↦ o | Released ↦ Err (WrongStanding 1) ])) (sym is) h

  if_released : p.standing ≡ Released → Fair (when_released p o)
  if_released is = subst (λ s. Fair (elim s as (λ _. Outcome) [ Blank ↦ Err (WrongStanding 1) | Open ↦ Err (WrongStanding 1) | Released ↦ o ])) (sym is) h

  if_not_blank : (p.standing ≡ Blank → ⊥) → Fair (unless_blank p o)
  if_not_blank n = go p.standing n
    where
      go : (s : Standing) → (s ≡ Blank → ⊥) → Fair (elim s as (λ _. Outcome) [ Blank ↦ Err (WrongStanding 2) | Open ↦ o | Released ↦ o ])
      go Blank n = absurd (n refl)
      go Open n = h
      go Released n = h

  if_begun : (p.standing ≡ Blank → ⊥) → Fair (when_begun p o)
  if_begun n = go p.standing n
    where
      go : (s : Standing) → (s ≡ Blank → ⊥) → Fair (elim s as (λ _. Outcome) [ Blank ↦ Err (WrongStanding 1) | Open ↦ o | Released ↦ o ])
      go Blank n = absurd (n refl)
      go Open n = h
      go Released n = h

module _ (t : Transitions) (p : Page) where
  -- from the end of a sheet on
  from_end : {A : Type 0} (k : Str → Result A BenchFault) → ((a : Str) → Fair (k a)) → Fair (then (end_answer t p) k)
  from_end k h = after_all (end_answer t p) k (steps_replayed t p.start (steps_of p)) h

  -- a look at a sheet that is not blank
  pub look_fair : (k n : ℕ) → (p.standing ≡ Blank → ⊥) → Fair (looked t k n p)
  look_fair k n begun =
      if_begun p _
      (from_end _ (λ _.
      either (leb k p.len) _ _
      (after_all (replayed t p.start (take k p.rows)) _ (steps_replayed t p.start (take k p.rows)) (λ a.
      after_all (from_system (fitting_state a n)) _ (of_system (fitting_state a n)) (λ _. tt)))
      (omega arith)))
      begun

  -- each call on an open sheet
  module _ (is : p.standing ≡ Open) where
    pub add_fair : (x : Str) (n : ℕ) → Fair (added t x n p)
    add_fair x n =
        if_open p _
        (from_end _ (λ a.
        either (ltb p.len 32) _ _
        (after_all (from_system (next_answer t a x n)) _ (of_system (next_answer t a x n)) (λ _. tt))
        (omega arith)))
        is

    pub withdraw_fair : (n : ℕ) → Fair (withdrawn t n p)
    withdraw_fair n =
        if_open p _
        (from_end _ (λ _.
        either (ltb 0 p.len) _ _
        (after_all (replayed t p.start (take (p.len - 1) p.rows)) _ (steps_replayed t p.start (take (p.len - 1) p.rows)) (λ a.
        after_all (from_system (fitting_state a n)) _ (of_system (fitting_state a n)) (λ _. tt)))
        (omega arith)))
        is

    exchanged_fair : (n : ℕ) (r : Result (Option Pair) MaskFault) → Fair (exchanged_on t n p r)
    exchanged_fair n (Err f) = at_system f
    exchanged_fair n (Ok None) = omega arith
    exchanged_fair n (Ok (Some x)) =
        after_all (replayed t p.start (take (n - 1) p.rows)) _ (steps_replayed t p.start (take (n - 1) p.rows)) (λ a.
        after_all (from_system (next_answer t a x.first 256)) _ (of_system (next_answer t a x.first 256)) (λ _. tt))

    pub swap_fair : (i : Independence) (n : ℕ) → Fair (swapped t i n p)
    swap_fair i n =
        if_open p _
        (from_end _ (λ _.
        either (ltb 0 n && ltb n p.len) _ _
        (exchanged_fair n (exchange_answer i (get_or p.rows (n - 1) []) (get_or p.rows n [])))
        (omega arith)))
        is

    fitting_fair : (a : Str) (n : ℕ) (r : Result (List Str) ℕ) → Fair (fitting t a n r)
    fitting_fair a n (Err k) = omega arith
    fitting_fair a n (Ok xs) =
        either (leb (n + length xs) 32) _ _
        (after_all (from_system (led t a xs)) _ (of_system (led t a xs)) (λ _. tt))
        (omega arith)

    alike_fair : (e : Page) → Fair (alike t p e)
    alike_fair e = from_end _ (λ a. after_all (end_answer t e) _ (steps_replayed t e.start (steps_of e)) (λ _. either (bytes_eq p.start e.start) (Ok a) (Err StartsDiffer) tt (omega arith)))

    pub join_fair : (i : Independence) (e : Page) → (e.standing ≡ Blank → ⊥) → Fair (joined t i (Some e) p)
    join_fair i e n =
        if_open p _
        (if_not_blank e _
        (after_all (alike t p e) _ (alike_fair e) (λ a.
        after_all (surviving t i a p e) _ (fitting_fair a p.len _) (λ _. tt)))
        n)
        is

    pub release_fair : Fair (released t p)
    release_fair = if_open p _ (from_end _ (λ _. tt)) is

  -- each call on a released sheet
  module _ (is : p.standing ≡ Released) where
    pub print_fair : (n : ℕ) → Fair (printed t n p)
    print_fair n = if_released p _ (from_end _ (λ a. either (leb (length (sheet_text t p a)) n) _ _ tt (omega arith))) is

    pub reopen_fair : Fair (reopened t p)
    reopen_fair = if_released p _ (from_end _ (λ _. tt)) is

-- the answers that tell of such an outcome
module _ (o : Outcome) (h : Fair o) where
  fair_answered : Fair (answered o)
  fair_answered = go o h
    where
      go : (o : Outcome) → Fair o → Fair (answered o)
      go (Ok d) h = tt
      go (Err f) h = h

  fair_accepted : Fair (accepted o)
  fair_accepted = go o h
    where
      go : (o : Outcome) → Fair o → Fair (accepted o)
      go (Ok d) h = tt
      go (Err f) h = h

  pub fair_count : (r : Result ℕ BenchFault) → r ≡ count (answered o) → Fair r
  fair_count r e = subst (λ r. Fair r) (sym e) (go (answered o) fair_answered)
    where
      go : (s : Result Str BenchFault) → Fair s → Fair (count s)
      go (Ok d) h = tt
      go (Err f) h = h

  pub fair_accept : (r : Result (Unit {0}) BenchFault) → r ≡ accepted o → Fair r
  fair_accept r e = subst (λ r. Fair r) (sym e) fair_accepted

  pub fair_fault : (f : BenchFault) → Err f ≡ accepted o → NotByStanding f
  fair_fault f e = fair_accept (Err f) e

  pub fair_pair : (r : Result (ℕ × ℕ) BenchFault) → pair_answer r ≡ answered o → Fair r
  fair_pair r e = go r (subst (λ s. Fair s) (sym e) fair_answered)
    where
      go : (r : Result (ℕ × ℕ) BenchFault) → Fair (pair_answer r) → Fair r
      go (Ok (n, k)) h = tt
      go (Err f) h = h
