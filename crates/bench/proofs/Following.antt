-- How a list of steps is followed one by one, and what a replay makes of where it stops.
use Rattle.std.proofs.Common.{◌≡◌, ℕ, ◌+◌, ◌<◌, ◌≤◌, List, [], ◌∷◌, length, get_or, drop, Ok, Err, Result, sym, refl, ap, ◌∙◌}
use Rattle.std.proofs.lemmas.List.{at_drop_more, at_drop_all, get_or_default}
use Rattle.steps.specs.Meaning.{Str, Transitions}
use Rattle.steps.specs.declared.fault.MaskFault.{MaskFault}
use Rattle.steps.specs.Answers.{state_answer, next_answer}
use Rattle.bench.specs.declared.fault.BenchFault.{BenchFault}
use Rattle.bench.specs.declared.fault.BenchFault.TheVariants.{Stopped}
use Rattle.bench.specs.declared.state.Halt.{Halt}
use Rattle.bench.specs.Walk.{walked}
use Rattle.bench.specs.Replay.{followed, replayed}
use Rattle.bench.specs.Join as join_of

-- one step on
then_walked : Transitions → Result Str MaskFault → List Str → ℕ → Result Str Halt
then_walked t r xs k = elim r [ Ok b ↦ walked t b xs (k + 1) | Err f ↦ Err (record { number = k; fault = f }) ]

module _ (t : Transitions) (a : Str) (xs : List Str) (i : ℕ) (r : Result Str Halt) (inv : walked t a (drop i xs) (i + 1) ≡ r) where
  module _ (lt : i < length xs) (x : Str) (at : x ≡ get_or xs i x) where
    more : (m : Result Str MaskFault) → m ≡ next_answer t a x 256 → then_walked t m (drop (i + 1) xs) (i + 1) ≡ r
    unfolding then_walked
    more m e =
        ap (λ n. then_walked t n (drop (i + 1) xs) (i + 1)) (e ∙ ap (λ y. next_answer t a y 256) (at ∙ get_or_default xs i x [] lt))
        ∙ sym (at_drop_more (λ ys. walked t a ys (i + 1)) xs i [] lt) ∙ inv

    pub leads_on : (b : Str) → Ok b ≡ next_answer t a x 256 → walked t b (drop (i + 1) xs) (i + 1 + 1) ≡ r
    unfolding then_walked
    leads_on b e = more (Ok b) e

    pub halts : (f : MaskFault) → Err f ≡ next_answer t a x 256 → Err (record { number = i + 1; fault = f }) ≡ r
    unfolding then_walked
    halts f e = more (Err f) e

  pub leads_there : length xs ≤ i → Ok a ≡ r
  leads_there done = sym (at_drop_all (λ ys. walked t a ys (i + 1)) xs i done) ∙ inv

-- what a replay, and a join, make of it
stopped : Result Str Halt → Result Str BenchFault
stopped (Ok b) = Ok b
stopped (Err h) = Err (Stopped h.number h.fault)

walk_followed : (t : Transitions) (a : Str) (xs : List Str) (k : ℕ) → stopped (walked t a xs k) ≡ followed t a xs k
unfolding stopped
walk_followed t a [] k = refl
walk_followed t a (x ∷ xs) k = go (next_answer t a x 256) (λ b. walk_followed t b xs (k + 1))
  where
    go : (m : Result Str MaskFault) → ((b : Str) → stopped (walked t b xs (k + 1)) ≡ followed t b xs (k + 1)) → stopped (elim m as (λ _. Result Str Halt) [ Ok b ↦ walked t b xs (k + 1) | Err f ↦ Err (record { number = k; fault = f }) ]) ≡ elim m as (λ _. Result Str BenchFault) [ Ok b ↦ followed t b xs (k + 1) | Err f ↦ Err (Stopped k f) ]
    go (Ok b) ih = ih b
    go (Err f) ih = refl

-- one step on
abbrev pub then_followed : Transitions → Result Str MaskFault → List Str → ℕ → Result Str BenchFault
then_followed t r xs k = elim r [ Ok b ↦ followed t b xs (k + 1) | Err f ↦ Err (Stopped k f) ]

-- from a start that is a state
pub starts : (t : Transitions) (a : Str) (xs : List Str) (r : Result Str BenchFault) → state_answer t a ≡ Ok tt → r ≡ followed t a xs 1 → r ≡ replayed t a xs
starts t a xs r ok e = e ∙ sym (ap (λ o. elim o as (λ _. Result Str BenchFault) [ Ok _ ↦ followed t a xs 1 | Err f ↦ Err (Stopped 0 f) ]) ok)

module _ (t : Transitions) (a : Str) (xs : List Str) (ok : state_answer t a ≡ Ok tt) where
  pub arrives : (b : Str) → Ok b ≡ walked t a xs 1 → Ok b ≡ replayed t a xs
  unfolding stopped
  arrives b e = starts t a xs (Ok b) ok (ap stopped e ∙ walk_followed t a xs 1)

  pub stops : (h : Halt) → Err h ≡ walked t a xs 1 → Err (Stopped h.number h.fault) ≡ replayed t a xs
  unfolding stopped
  stops h e = starts t a xs (Err (Stopped h.number h.fault)) ok (ap stopped e ∙ walk_followed t a xs 1)

unnumbered : Result Str Halt → Result Str MaskFault
unnumbered (Ok b) = Ok b
unnumbered (Err h) = Err h.fault

walk_on_the_way : (t : Transitions) (a : Str) (xs : List Str) (k : ℕ) → unnumbered (walked t a xs k) ≡ join_of.led t a xs
unfolding unnumbered
walk_on_the_way t a [] k = refl
walk_on_the_way t a (x ∷ xs) k = go (next_answer t a x 256) (λ b. walk_on_the_way t b xs (k + 1))
  where
    go : (m : Result Str MaskFault) → ((b : Str) → unnumbered (walked t b xs (k + 1)) ≡ join_of.led t b xs) → unnumbered (elim m as (λ _. Result Str Halt) [ Ok b ↦ walked t b xs (k + 1) | Err f ↦ Err (record { number = k; fault = f }) ]) ≡ elim m as (λ _. Result Str MaskFault) [ Ok b ↦ join_of.led t b xs | Err f ↦ Err f ]
    go (Ok b) ih = ih b
    go (Err f) ih = refl

pub passes : (t : Transitions) (a : Str) (xs : List Str) (b : Str) → Ok b ≡ walked t a xs 1 → Ok b ≡ join_of.led t a xs
unfolding unnumbered
passes t a xs b e = ap unnumbered e ∙ walk_on_the_way t a xs 1

pub blocks : (t : Transitions) (a : Str) (xs : List Str) (h : Halt) → Err h ≡ walked t a xs 1 → Err h.fault ≡ join_of.led t a xs
unfolding unnumbered
blocks t a xs h e = ap unnumbered e ∙ walk_on_the_way t a xs 1
