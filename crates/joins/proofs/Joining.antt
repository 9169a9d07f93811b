-- One list joined to another, one step after the other. Assumes the laws of a step system where it says so.
use Rattle.std.proofs.Common.{◌≡◌, ℕ, ◌+◌, ◌<◌, ◌≤◌, List, [], ◌∷◌, ◌++◌, length, get_or, take, drop, Ok, Err, Result, sym, refl, ap, ◌∙◌, append_assoc, append-nil, arith}
use Rattle.std.proofs.lemmas.List.{at_drop_more, at_drop_all}
use Rattle.steps.specs.Meaning.{Str, Transitions, Independence}
use Rattle.steps.specs.Laws.{Laws}
use Rattle.runs.specs.Join.{carry, Joined, one_shared, one_added, join}
use Rattle.runs.specs.Join.Carried.{clash, gone, kept}
use Rattle.runs.proofs.Carry.{carry_gone, carry_kept}
use Rattle.runs.proofs.Join.{join_clash, join_gone, join_kept}
use Rattle.joins.specs.Steps.{ShortStep, ShortSteps}
use Rattle.joins.specs.Join.{added_of}
use Rattle.joins.proofs.Carrying.{carries_short, pushed_all}

-- survivors of the first k steps, before those of the others
abbrev pub before : List Str → ℕ → Result (List Str) ℕ → Result (List Str) ℕ
before added k (Ok more) = Ok (added ++ more)
before added k (Err n) = Err (k + n)

before_shared : (added : List Str) (k : ℕ) (r : Result Joined ℕ) → before added (k + 1) (added_of r) ≡ before added k (added_of (one_shared r))
before_shared added k (Ok j) = refl
before_shared added k (Err n) = ap Err (omega arith)

before_added : (added : List Str) (y : Str) (k : ℕ) (r : Result Joined ℕ) → before (added ++ y ∷ []) (k + 1) (added_of r) ≡ before added k (added_of (one_added y r))
before_added added y k (Ok j) = ap Ok (append_assoc added (y ∷ []) j.added)
before_added added y k (Err n) = ap Err (omega arith)

-- The invariant of joining e to s: the survivors so far, before those of the rest of e joined to what remains of s, are those of all.
abbrev pub SoFar : Transitions → Independence → List Str → List Str → List Str → List Str → ℕ → Type 0
SoFar t i s e added remains k = (before added k (added_of (join i remains (drop k e))) ≡ added_of (join i s e)) × (length added ≤ k) × ShortSteps t remains

pub begins : (t : Transitions) (i : Independence) (s e added : List Str) → added ≡ [] → ShortSteps t s → SoFar t i s e added s 0
begins t i s e added none short = (ap (λ l. before l 0 (added_of (join i s e))) none ∙ go (added_of (join i s e)), omega (arith, ap length none), short)
  where
    go : (r : Result (List Str) ℕ) → before [] 0 r ≡ r
    go (Ok more) = refl
    go (Err n) = ap Err (omega arith)

module _ {t : Transitions} {i : Independence} (laws : Laws t i) (s e added remains : List Str) (k : ℕ) (inv : SoFar t i s e added remains k) where
  module _ (few : length e ≤ 32) (lt : k < length e) (y : Str) (at : get_or e k [] ≡ y) (short : ShortStep t y) where
    next : before added k (added_of (join i remains (y ∷ drop (k + 1) e))) ≡ added_of (join i s e)
    next = ap (λ v. before added k (added_of (join i remains (v ∷ drop (k + 1) e)))) (sym at) ∙ sym (at_drop_more (λ ys. before added k (added_of (join i remains ys))) e k [] lt) ∙ inv.0

    pub step_clashes : clash ≡ carry i y remains → Err (k + 1) ≡ added_of (join i s e)
    step_clashes c = sym (ap (λ r. before added k (added_of r)) (join_clash i remains y (drop (k + 1) e) (sym c))) ∙ next

    pub step_gone : (added' q remains' : List Str) → gone q ≡ carry i y remains → added' ≡ added → remains' ≡ q → SoFar t i s e added' remains' (k + 1)
    step_gone added' q remains' c same is =
        let told = before_shared added k (join i q (drop (k + 1) e)) ∙ sym (ap (λ r. before added k (added_of r)) (join_gone i remains y (drop (k + 1) e) q (sym c))) ∙ next in
        rw (same, is) (told, omega (arith, inv.1), carries_short laws (carry_gone i y remains q (sym c)) short inv.2)

    pub step_kept : (added' q remains' : List Str) (y' : Str) → kept y' q ≡ carry i y remains → added' ≡ take 32 (added ++ y' ∷ []) → remains' ≡ q → SoFar t i s e added' remains' (k + 1)
    step_kept added' q remains' y' c put is =
        let p = pushed_all added added' y' k (length e) put inv.1 lt few in
        let told = before_added added y' k (join i q (drop (k + 1) e)) ∙ sym (ap (λ r. before added k (added_of r)) (join_kept i remains y (drop (k + 1) e) y' q (sym c))) ∙ next in
        rw is (ap (λ l. before l (k + 1) (added_of (join i q (drop (k + 1) e)))) p.0 ∙ told, p.1, carries_short laws (carry_kept i y remains y' q (sym c)) short inv.2)

  pub all_joined : length e ≤ k → Ok added ≡ added_of (join i s e)
  unfolding join
  all_joined done = ap Ok (sym (append-nil added)) ∙ sym (at_drop_all (λ ys. before added k (added_of (join i remains ys))) e k done) ∙ inv.0
