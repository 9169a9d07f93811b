-- How a look at the first steps of a page comes out.
use Rattle.std.proofs.Common.{◌≡◌, ℕ, ◌<◌, ◌≤◌, leb, take, Ok, Err, refl, ap, sym, ◌∙◌}
use Rattle.std.proofs.lemmas.Bool.{cond-true, cond-false, le-leb, lt-leb}
use Rattle.steps.specs.Meaning.{Str, Transitions}
use Rattle.steps.specs.declared.fault.MaskFault.{MaskFault}
use Rattle.steps.specs.Answers.{fitting_state}
use Rattle.bench.specs.declared.fault.BenchFault.{BenchFault}
use Rattle.bench.specs.declared.fault.BenchFault.TheVariants.{WrongStanding, System, NoSuchStep}
use Rattle.bench.specs.declared.sheet.Standing.{Standing}
use Rattle.bench.specs.declared.sheet.Standing.TheVariants.{Blank, Open, Released}
use Rattle.bench.specs.declared.sheet.Head.{Head}
use Rattle.bench.specs.declared.sheet.Sheet.{Sheet}
use Rattle.bench.specs.Page.{Page}
use Rattle.bench.specs.Replay.{replayed, end_answer}
use Rattle.bench.specs.Calls.{Outcome, then, from_system}
use Rattle.bench.specs.Look.{when_begun, looked}
use Rattle.bench.proofs.Calling.{then_err, then_ok}
use denote.Struct.Props.{props}

not_begun : (p : Page) (o : Outcome) → p.standing ≡ Blank → when_begun p o ≡ Err (WrongStanding 1)
not_begun p o e = ap (λ s. elim s as (λ _. Outcome) [ Blank ↦ Err (WrongStanding 1) | Open ↦ o | Released ↦ o ]) e

is_begun : (p : Page) (o : Outcome) → (p.standing ≡ Blank → ⊥) → when_begun p o ≡ o
is_begun p o h = go p.standing h
  where
    go : (s : Standing) → (s ≡ Blank → ⊥) → elim s as (λ _. Outcome) [ Blank ↦ Err (WrongStanding 1) | Open ↦ o | Released ↦ o ] ≡ o
    go Blank n = absurd (n refl)
    go Open n = refl
    go Released n = refl

module _ (t : Transitions) (k n : ℕ) (p : Page) where
  pub looked_blank : p.standing ≡ Blank → looked t k n p ≡ Err (WrongStanding 1)
  looked_blank e = not_begun p _ e

  module _ (begun : p.standing ≡ Blank → ⊥) where
    pub looked_stopped : (f : BenchFault) → Err f ≡ end_answer t p → looked t k n p ≡ Err f
    looked_stopped f e = is_begun p _ begun ∙ then_err _ _ f e

    module _ (z : Str) (end : Ok z ≡ end_answer t p) where
      pub looked_past : p.len < k → looked t k n p ≡ Err (NoSuchStep k)
      looked_past past = is_begun p _ begun ∙ then_ok _ _ z end ∙ cond-false (leb k p.len) _ _ (lt-leb _ _ past)

      module _ (there : k ≤ p.len) where
        inside : looked t k n p ≡ then (replayed t p.start (take k p.rows)) (λ a. then (from_system (fitting_state a n)) (λ b. Ok (record { answer = b; page = p })))
        inside = is_begun p _ begun ∙ then_ok _ _ z end ∙ cond-true (leb k p.len) _ _ (le-leb _ _ there)

        pub looked_lost : (f : BenchFault) → Err f ≡ replayed t p.start (take k p.rows) → looked t k n p ≡ Err f
        looked_lost f e = inside ∙ then_err _ _ f e

        module _ (a : Str) (first : Ok a ≡ replayed t p.start (take k p.rows)) where
          pub looked_refused : (f : MaskFault) → fitting_state a n ≡ Err f → looked t k n p ≡ Err (System f)
          looked_refused f r = inside ∙ then_ok _ _ a first ∙ then_err _ _ (System f) (sym (ap from_system r))

          pub looked_back : (b : Str) → fitting_state a n ≡ Ok b → looked t k n p ≡ Ok (record { answer = b; page = p })
          looked_back b r = inside ∙ then_ok _ _ a first ∙ then_ok _ _ b (sym (ap from_system r))

-- a head is its standing and its length, however its bound is shown
pub same_head : (s : Standing) (n : ℕ) (x y : n ≤ 32) → ◌≡◌ {A = Head} (record { standing = s; len = n; few = x }) (record { standing = s; len = n; few = y })
same_head s n x y =
    let one : IsProp (n ≤ 32) = hlevel props in
    λ i. record { standing = s; len = n; few = one x y i }

-- a sheet whose head is put back is the sheet that it was
pub same_sheet : (s : Sheet) (h : Head) (x : s.head.len ≤ 32) → h ≡ record { standing = s.head.standing; len = s.head.len; few = x } → ◌≡◌ {A = Sheet} (record { head = h; start = s.start; rows = s.rows }) s
same_sheet s h x e = ap (λ h. record { head = h; start = s.start; rows = s.rows }) (e ∙ same_head s.head.standing s.head.len x s.head.few)
