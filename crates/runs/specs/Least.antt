-- A join is the least list that extends both, and clashes only where no run extends both, in every step system.
use Rattle.std.specs.Prelude.{◌≡◌, ℕ, ◌<◌, ◌↔◌, List, ◌++◌, take, Ok, Err}
use Rattle.steps.specs.Meaning.{Str, Transitions, Independence}
use Rattle.steps.specs.Laws.{Laws}
use Rattle.runs.specs.Run.{Run}
use Rattle.runs.specs.Exchange.{Extends}
use Rattle.runs.specs.Join.{Joined, join}
use Rattle.runs.specs.Compatible.{Compatible}

-- where some list extends both, there is a join, and that list extends it
abbrev pub Least : Type 0
Least = (t : Transitions) (i : Independence) → Laws t i → (s e r : List Str) → Extends i r s → Extends i r e → (j : Joined) × (join i s e ≡ Ok j) × Extends i r (s ++ j.added)

-- two runs from one start clash exactly where no run from there extends both
abbrev pub Conflict : Type 0
Conflict = (t : Transitions) (i : Independence) → Laws t i → (a : Str) (s : List Str) (b : Str) (e : List Str) (c : Str) → Run t a s b → Run t a e c →
    ((n : ℕ) × (join i s e ≡ Err n)) ↔ (Compatible t i a s e → ⊥)

-- and the number told is the least n such that no run extends the one and the first n steps of the other
abbrev pub ConflictPlace : Type 0
ConflictPlace = (t : Transitions) (i : Independence) → Laws t i → (a : Str) (s : List Str) (b : Str) (e : List Str) (c : Str) → Run t a s b → Run t a e c → (n : ℕ) →
    (join i s e ≡ Err n) ↔ ((Compatible t i a s (take n e) → ⊥) × ((k : ℕ) → k < n → Compatible t i a s (take k e)))

-- the opposite join: what is added and what remains change places
abbrev pub Opposite : Type 0
Opposite = (t : Transitions) (i : Independence) → Laws t i → (s e : List Str) (j : Joined) → join i s e ≡ Ok j → join i e s ≡ Ok (record { added = j.remains; remains = j.added; shared = j.shared })

-- it ends in the same state
abbrev pub OppositeEnd : Type 0
OppositeEnd = (t : Transitions) (i : Independence) → Laws t i → (a : Str) (s e : List Str) (j k : Joined) (b c : Str) → join i s e ≡ Ok j → join i e s ≡ Ok k → Run t a (s ++ j.added) b → Run t a (e ++ k.added) c → b ≡ c
