-- What holds of exchanges in every step system.
use Rattle.std.specs.Prelude.{◌≡◌, List, ◌∷◌, ◌++◌, length, Some}
use Rattle.steps.specs.Meaning.{Str, Transitions, Independence}
use Rattle.steps.specs.Laws.{Laws}
use Rattle.runs.specs.Run.{Run}
use Rattle.runs.specs.Exchange.{Exchange, Exchanged, Extends}

-- a run stays a run, with its start and its end
abbrev pub KeepRuns : Type 0
KeepRuns = (t : Transitions) (i : Independence) → Laws t i → (a : Str) (xs ys : List Str) (b : Str) → Exchanged i xs ys → Run t a xs b → Run t a ys b

-- what has been exchanged can be exchanged back, and on
abbrev pub Equivalence : Type 0
Equivalence = (i : Independence) (xs ys zs : List Str) → Exchanged i xs xs × (Exchanged i xs ys → Exchanged i ys xs) × (Exchanged i xs ys → Exchanged i ys zs → Exchanged i xs zs)

-- steps before and behind do not hinder
abbrev pub BetweenOthers : Type 0
BetweenOthers = (i : Independence) (before xs ys behind : List Str) → Exchanged i xs ys → Exchanged i (before ++ xs ++ behind) (before ++ ys ++ behind)

-- no step is lost or won
abbrev pub SameLength : Type 0
SameLength = (i : Independence) (xs ys : List Str) → Exchanged i xs ys → length xs ≡ length ys

-- every list extends itself, and what extends a list that extends a third extends the third
abbrev pub Preorder : Type 0
Preorder = (i : Independence) (p q r : List Str) → Extends i p p × (Extends i r q → Extends i q p → Extends i r p)

-- lists that extend each other are exchanged
abbrev pub Antisymmetric : Type 0
Antisymmetric = (i : Independence) (q r : List Str) → Extends i r q → Extends i q r → Exchanged i r q

-- a swap: back answers which step y stood before x where z stands behind it; y and what is left of x take their place, the end stays, and a second swap undoes it
abbrev pub Swaps : Type 0
Swaps = (t : Transitions) (i : Independence) → Laws t i → (before : List Str) (x z : Str) (behind : List Str) (y : Str) → i.back x z ≡ Some y →
    (x' : Str)
    × (i.left x y ≡ Some x')
    × (i.back y x' ≡ Some x)
    × (i.left y x ≡ Some z)
    × Exchange i (before ++ x ∷ z ∷ behind) (before ++ y ∷ x' ∷ behind)
    × ((a b : Str) → Run t a (before ++ x ∷ z ∷ behind) b → Run t a (before ++ y ∷ x' ∷ behind) b)
