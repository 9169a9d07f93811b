-- How a join comes out, and the rows that it writes.
use Rattle.std.proofs.Common.{◌≡◌, ℕ, Bool, ◌+◌, ◌<◌, ◌≤◌, true, cond, leb, List, length, is_ok, Some, None, Ok, Err, Result, sym, refl, ap, ◌∙◌, ap₂}
use Rattle.std.proofs.lemmas.Bool.{cond-true, cond-false, le-leb, lt-leb}
use Rattle.std.specs.Str.{bytes_eq}
use Rattle.steps.specs.Meaning.{Str, Transitions, Independence}
use Rattle.steps.specs.declared.fault.MaskFault.{MaskFault}
use Rattle.steps.proofs.Answered.{ok_not_err}
use Rattle.runs.specs.Join.{join}
use Rattle.joins.specs.Join.{added_of}
use Rattle.bench.specs.declared.fault.BenchFault.{BenchFault}
use Rattle.bench.specs.declared.fault.BenchFault.TheVariants.{NoSheet, WrongStanding, System, StartsDiffer, Conflict, TooMany}
use Rattle.bench.specs.declared.sheet.Standing.{Standing}
use Rattle.bench.specs.declared.sheet.Standing.TheVariants.{Blank, Open, Released}
use Rattle.bench.specs.Page.{Page, steps_of}
use Rattle.bench.specs.Replay.{end_answer}
use Rattle.bench.specs.Calls.{Outcome, then, from_system}
use Rattle.bench.specs.Join.{led, alike, fitting, surviving, merged, unless_blank, joined}
use Rattle.bench.proofs.Calling.{then_err, then_ok, is_open}

-- the starts, and the rooms
pub starts_alike : (t : Transitions) (p e : Page) (a b : Str) (r : Bool) → Ok a ≡ end_answer t p → Ok b ≡ end_answer t e → r ≡ bytes_eq p.start e.start → alike t p e ≡ cond r (Ok a) (Err StartsDiffer)
starts_alike t p e a b r first second same = then_ok (end_answer t p) _ a first ∙ then_ok (end_answer t e) _ b second ∙ ap (λ s. cond s (Ok a) (Err StartsDiffer)) (sym same)

-- sheets that start alike replay
pub alike_ok : (t : Transitions) (p e : Page) (a : Str) → alike t p e ≡ Ok a → (is_ok (end_answer t p) ≡ true) × (is_ok (end_answer t e) ≡ true)
alike_ok t p e a h = go (end_answer t p) (end_answer t e) h
  where
    go : (r s : Result Str BenchFault) → then r (λ a. then s (λ _. cond (bytes_eq p.start e.start) (Ok a) (Err StartsDiffer))) ≡ Ok a → (is_ok r ≡ true) × (is_ok s ≡ true)
    go (Ok b) (Ok c) h = (refl, refl)
    go (Ok b) (Err f) h = ok_not_err a f (sym h)
    go (Err f) s h = ok_not_err a f (sym h)

pub both_steps : (i : Independence) (s e s' e' : List Str) → s ≡ s' → e ≡ e' → added_of (join i s e) ≡ added_of (join i s' e')
both_steps i s e s' e' p q = ap₂ (λ v w. added_of (join i v w)) p q

module _ (t : Transitions) (i : Independence) (a : Str) (p e : Page) where
  pub conflicts : (n : ℕ) → Err n ≡ added_of (join i (steps_of p) (steps_of e)) → surviving t i a p e ≡ Err (Conflict n)
  conflicts n c = sym (ap (fitting t a p.len) c)

  module _ (added : List Str) (is : Ok added ≡ added_of (join i (steps_of p) (steps_of e))) where
    pub too_many : 32 < p.len + length added → surviving t i a p e ≡ Err (TooMany (p.len + length added))
    too_many over = sym (ap (fitting t a p.len) is) ∙ cond-false (leb (p.len + length added) 32) _ _ (lt-leb _ _ over)

    room : p.len + length added ≤ 32 → surviving t i a p e ≡ then (from_system (led t a added)) (λ _. Ok added)
    room fits = sym (ap (fitting t a p.len) is) ∙ cond-true (leb (p.len + length added) 32) _ _ (le-leb _ _ fits)

    pub stops_on_the_way : p.len + length added ≤ 32 → (f : MaskFault) → Err f ≡ led t a added → surviving t i a p e ≡ Err (System f)
    stops_on_the_way fits f l = room fits ∙ then_err _ _ (System f) (ap from_system l)

    pub survives : p.len + length added ≤ 32 → (b : Str) → Ok b ≡ led t a added → surviving t i a p e ≡ Ok added
    survives fits b l = room fits ∙ then_ok _ _ b (ap from_system l)

-- the other sheet
pub was_blank : (e : Page) (o : Outcome) → e.standing ≡ Blank → unless_blank e o ≡ Err (WrongStanding 2)
was_blank e o s = ap (λ st. elim st as (λ _. Outcome) [ Blank ↦ Err (WrongStanding 2) | Open ↦ o | Released ↦ o ]) s

pub not_blank : (e : Page) (o : Outcome) → (e.standing ≡ Blank → ⊥) → unless_blank e o ≡ o
not_blank e o h = go e.standing h
  where
    go : (st : Standing) → (st ≡ Blank → ⊥) → elim st as (λ _. Outcome) [ Blank ↦ Err (WrongStanding 2) | Open ↦ o | Released ↦ o ] ≡ o
    go Blank n = absurd (n refl)
    go Open n = refl
    go Released n = refl

module _ (t : Transitions) (i : Independence) (p : Page) (is : p.standing ≡ Open) where
  pub joined_none : joined t i None p ≡ Err (NoSheet 2)
  joined_none = is_open p _ is

  module _ (e : Page) where
    pub joined_blank : e.standing ≡ Blank → joined t i (Some e) p ≡ Err (WrongStanding 2)
    joined_blank s = is_open p _ is ∙ was_blank e _ s

    module _ (some : e.standing ≡ Blank → ⊥) where
      begun : joined t i (Some e) p ≡ then (alike t p e) (λ a. then (surviving t i a p e) (λ added. Ok (merged p e added)))
      begun = is_open p _ is ∙ not_blank e _ some

      pub joined_unlike : (f : BenchFault) → Err f ≡ alike t p e → joined t i (Some e) p ≡ Err f
      joined_unlike f s = begun ∙ then_err _ _ f s

      module _ (a : Str) (start : Ok a ≡ alike t p e) where
        pub joined_refused : (f : BenchFault) → Err f ≡ surviving t i a p e → joined t i (Some e) p ≡ Err f
        joined_refused f s = begun ∙ then_ok _ _ a start ∙ then_err _ _ f s

        pub joined_done : (added : List Str) → Ok added ≡ surviving t i a p e → joined t i (Some e) p ≡ Ok (merged p e added)
        joined_done added s = begun ∙ then_ok _ _ a start ∙ then_ok _ _ added s
