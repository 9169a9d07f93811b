-- Runs: from a start, step by step, each where it is possible; and the end that a run comes to.
use Rattle.std.specs.Prelude.{◌≡◌, true, ◌↔◌, List, [], ◌∷◌, ◌++◌, Ok}
use Rattle.steps.specs.Meaning.{Str, Transitions, Independence}
use Rattle.steps.specs.Laws.{Laws}

-- Run t a xs b: from the start a by the steps xs to the end b.
pub data Run (t : Transitions) : Str → List Str → Str → Type 0 where
  stays : {a : Str} → t.state a ≡ true → Run t a [] a
  goes : {a x b : Str} {xs : List Str} {c : Str} → t.next a x ≡ Ok b → Run t b xs c → Run t a (x ∷ xs) c

-- a start and steps lead to one end at most
abbrev pub OneEnd : Type 0
OneEnd = (t : Transitions) (a : Str) (xs : List Str) (b c : Str) → Run t a xs b → Run t a xs c → b ≡ c

-- what starts where a run ends goes on from it
abbrev pub RunsOn : Type 0
RunsOn = (t : Transitions) (a : Str) (xs : List Str) (b : Str) (ys : List Str) (c : Str) → Run t a xs b → Run t b ys c → Run t a (xs ++ ys) c

-- a run falls into a run by its first steps, and one by the others from its end
abbrev pub FallsApart : Type 0
FallsApart = (t : Transitions) (i : Independence) → Laws t i → (a : Str) (xs ys : List Str) (c : Str) → Run t a (xs ++ ys) c → (b : Str) × Run t a xs b × Run t b ys c

-- a run with a last step is a run without it, to a state in which that step is possible
abbrev pub LastStep : Type 0
LastStep = (t : Transitions) (i : Independence) → Laws t i → (a : Str) (xs : List Str) (x c : Str) → Run t a (xs ++ x ∷ []) c ↔ ((b : Str) × Run t a xs b × (t.next b x ≡ Ok c))

-- a start and an end are states
abbrev pub BetweenStates : Type 0
BetweenStates = (t : Transitions) (i : Independence) → Laws t i → (a : Str) (xs : List Str) (b : Str) → Run t a xs b → (t.state a ≡ true) × (t.state b ≡ true)
