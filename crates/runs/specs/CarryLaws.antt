-- Carrying does not tell exchanged lists apart, and steps in front cancel, in every step system.
use Rattle.std.specs.Prelude.{◌≡◌, List, ◌++◌}
use Rattle.steps.specs.Meaning.{Str, Transitions, Independence}
use Rattle.steps.specs.Laws.{Laws}
use Rattle.runs.specs.Exchange.{Exchanged}
use Rattle.runs.specs.Join.{carry}
use Rattle.runs.specs.Join.Carried.{clash, gone, kept}

-- a step clashes in both lists, is gone in both, or is kept in both with the same rest, and what remains is exchanged
abbrev pub CarriedAlike : Type 0
CarriedAlike = (t : Transitions) (i : Independence) → Laws t i → (y : Str) (s s' : List Str) → Exchanged i s s' →
    (carry i y s ≡ clash → carry i y s' ≡ clash)
    × ((q : List Str) → carry i y s ≡ gone q → (q' : List Str) × (carry i y s' ≡ gone q') × Exchanged i q q')
    × ((y' : Str) (q : List Str) → carry i y s ≡ kept y' q → (q' : List Str) × (carry i y s' ≡ kept y' q') × Exchanged i q q')

-- steps before both lists cancel
abbrev pub Cancels : Type 0
Cancels = (t : Transitions) (i : Independence) → Laws t i → (before xs ys : List Str) → Exchanged i (before ++ xs) (before ++ ys) → Exchanged i xs ys
