-- What runs have in common. Assumes nothing but, where it says so, the laws of a step system.
use Rattle.std.proofs.Common.{◌≡◌, ℕ, true, List, [], ◌∷◌, ◌++◌, take, drop, Ok, sym, refl, subst}
use Rattle.std.proofs.lemmas.List.{take-append-drop}
use Rattle.steps.specs.Meaning.{Str, Transitions, Independence}
use Rattle.steps.specs.Laws.{Laws}
use Rattle.runs.specs.Run.{Run, OneEnd, RunsOn, FallsApart, LastStep, BetweenStates}
use Rattle.runs.specs.Run.Run.{stays, goes}

module _ (t : Transitions) where
  -- the end is unique
  pub run_end_unique : {a : Str} {xs : List Str} {b c : Str} → Run t a xs b → Run t a xs c → b ≡ c
  run_end_unique (stays s) (stays s') = refl
  run_end_unique {c = c} (goes {xs = xs} e r) (goes e' r') = run_end_unique r (subst (λ b. Run t b xs c) (cc) r')

  -- a run of no steps, and of one
  pub run_none : {a b : Str} → Run t a [] b → a ≡ b
  run_none (stays s) = refl

  pub run_one : {a x b : Str} → Run t a (x ∷ []) b → t.next a x ≡ Ok b
  run_one (goes e (stays s)) = e

  -- a run goes on by another from its end
  pub run_append : {a : Str} {xs : List Str} {b : Str} {ys : List Str} {c : Str} → Run t a xs b → Run t b ys c → Run t a (xs ++ ys) c
  run_append (stays s) q = q
  run_append (goes e r) q = goes e (run_append r q)

module _ {t : Transitions} {i : Independence} (laws : Laws t i) where
  -- it starts and ends in states
  pub run_start_state : {a : Str} {xs : List Str} {b : Str} → Run t a xs b → t.state a ≡ true
  run_start_state (stays s) = s
  run_start_state (goes {a = a} {x = x} {b = b} e r) = (laws.leads a x b e).0

  pub run_end_state : {a : Str} {xs : List Str} {b : Str} → Run t a xs b → t.state b ≡ true
  run_end_state (stays s) = s
  run_end_state (goes e r) = run_end_state r

  -- a step behind the others
  pub run_snoc : {a : Str} {xs : List Str} {b x c : Str} → Run t a xs b → t.next b x ≡ Ok c → Run t a (xs ++ x ∷ []) c
  run_snoc {b = b} {x = x} {c = c} r e = run_append t r (goes e (stays (laws.leads b x c e).2))

  -- the first steps of a run, and the others from there
  pub run_split : (xs : List Str) {a : Str} {ys : List Str} {c : Str} → Run t a (xs ++ ys) c → (b : Str) × Run t a xs b × Run t b ys c
  run_split [] {a} r = (a, stays (run_start_state r), r)
  run_split (x ∷ xs) (goes e r) = let s = run_split xs r in (s.0, goes e s.1, s.2)

  -- the last step taken off
  pub run_unsnoc : {a : Str} (xs : List Str) {x c : Str} → Run t a (xs ++ x ∷ []) c → (b : Str) × Run t a xs b × (t.next b x ≡ Ok c)
  run_unsnoc xs r = let s = run_split xs r in (s.0, s.1, run_one t s.2)

  -- a front of a run is a run
  pub run_take : {a : Str} (n : ℕ) {xs : List Str} {c : Str} → Run t a xs c → (b : Str) × Run t a (take n xs) b × Run t b (drop n xs) c
  run_take {a} n {xs} {c} r = run_split (take n xs) (subst (λ ys. Run t a ys c) (sym (take-append-drop n xs)) r)

-- the same of every step system
pub one_end : OneEnd
one_end t a xs b c r q = run_end_unique t r q

pub runs_on : RunsOn
runs_on t a xs b ys c r q = run_append t r q

pub falls_apart : FallsApart
falls_apart t i laws a xs ys c r = run_split laws xs r

pub last_step : LastStep
last_step t i laws a xs x c = ((λ r. run_unsnoc laws xs r), (λ s. run_snoc laws s.1 s.2))

pub between_states : BetweenStates
between_states t i laws a xs b r = (run_start_state laws r, run_end_state laws r)
