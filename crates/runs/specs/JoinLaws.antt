-- What carrying and joining mean for exchanges and runs, in every step system.
use Rattle.std.specs.Prelude.{◌≡◌, ◌+◌, List, [], ◌∷◌, ◌++◌, length, Ok}
use Rattle.steps.specs.Meaning.{Str, Transitions, Independence}
use Rattle.steps.specs.Laws.{Laws}
use Rattle.runs.specs.Run.{Run}
use Rattle.runs.specs.Exchange.{Exchanged, Extends}
use Rattle.runs.specs.Join.{carry, Joined, join}
use Rattle.runs.specs.Join.Carried.{gone, kept}

-- a list through which a step is gone is that step and then what remains, up to exchanges
abbrev pub GoneExchanged : Type 0
GoneExchanged = (i : Independence) (y : Str) (s q : List Str) → carry i y s ≡ gone q → Exchanged i s (y ∷ q)

-- a list and then what is kept of a step are the step and then what remains, up to exchanges
abbrev pub KeptExchanged : Type 0
KeptExchanged = (i : Independence) (y : Str) (s : List Str) (y' : Str) (q : List Str) → carry i y s ≡ kept y' q → Exchanged i (s ++ y' ∷ []) (y ∷ q)

-- a step that is possible at the start of a run: what remains of the run is a run behind it, to the same end or to where what is kept of the step leads
abbrev pub CarriedRuns : Type 0
CarriedRuns = (t : Transitions) (i : Independence) → Laws t i → (a : Str) (s : List Str) (b y c : Str) → Run t a s b → t.next a y ≡ Ok c →
    ((q : List Str) → carry i y s ≡ gone q → Run t c q b)
    × ((y' : Str) (q : List Str) → carry i y s ≡ kept y' q → (d : Str) × (t.next b y' ≡ Ok d) × Run t c q d)

-- two runs from one start: what is added goes on from the one's end, what remains from the other's, to one end
abbrev pub JoinedRuns : Type 0
JoinedRuns = (t : Transitions) (i : Independence) → Laws t i → (a : Str) (s : List Str) (b : Str) (e : List Str) (c : Str) (j : Joined) → Run t a s b → Run t a e c → join i s e ≡ Ok j →
    (d : Str) × Run t b j.added d × Run t c j.remains d × Run t a (s ++ j.added) d

-- a join begins with s, and extends e: behind e it has what remains of s
abbrev pub JoinedExtends : Type 0
JoinedExtends = (i : Independence) (s e : List Str) (j : Joined) → join i s e ≡ Ok j →
    Exchanged i (s ++ j.added) (e ++ j.remains) × Extends i (s ++ j.added) s × Extends i (s ++ j.added) e

-- its steps are those of both, the shared ones once
abbrev pub JoinedLength : Type 0
JoinedLength = (i : Independence) (s e : List Str) (j : Joined) → join i s e ≡ Ok j → length (s ++ j.added) + j.shared ≡ length s + length e
