-- Joining as an operation, up to exchanges: with itself, with what it extends, of exchanged lists, and with a third list.
use Rattle.std.specs.Prelude.{◌≡◌, ◌↔◌, List, [], ◌++◌, length, Ok}
use Rattle.steps.specs.Meaning.{Str, Transitions, Independence}
use Rattle.steps.specs.Laws.{Laws}
use Rattle.runs.specs.Exchange.{Exchanged, Extends}
use Rattle.runs.specs.Join.{Joined, join}

-- a list joined to itself stays as it is, and shares all
abbrev pub WithItself : Type 0
WithItself = (t : Transitions) (i : Independence) → Laws t i → (s : List Str) → join i s s ≡ Ok (record { added = []; remains = []; shared = length s })

-- one list extends another exactly where the other, joined to it, adds nothing
abbrev pub AddsNothing : Type 0
AddsNothing = (t : Transitions) (i : Independence) → Laws t i → (s e : List Str) → Extends i s e ↔ ((j : Joined) × (join i s e ≡ Ok j) × (j.added ≡ []))

-- exchanged lists have exchanged joins, which share as many steps
abbrev pub JoinedAlike : Type 0
JoinedAlike = (t : Transitions) (i : Independence) → Laws t i → (s s' e e' : List Str) (j : Joined) → Exchanged i s s' → Exchanged i e e' → join i s e ≡ Ok j →
    (k : Joined) × (join i s' e' ≡ Ok k) × Exchanged i (s ++ j.added) (s' ++ k.added) × (j.shared ≡ k.shared)

-- a third list may be joined to the join, or to the second list first
abbrev pub WithThird : Type 0
WithThird = (t : Transitions) (i : Independence) → Laws t i → (s e f : List Str) (j k : Joined) → join i s e ≡ Ok j → join i (s ++ j.added) f ≡ Ok k →
    (l m : Joined) × (join i e f ≡ Ok l) × (join i s (e ++ l.added) ≡ Ok m) × Exchanged i (s ++ j.added ++ k.added) (s ++ m.added)
