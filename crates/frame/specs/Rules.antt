-- The rules of a setup, byte by byte: what is taken, or the place of the first byte that breaks
-- one.
use Rattle.std.specs.Prelude.{ℕ, ◌+◌, ◌*◌, Bool, List, [], ◌∷◌, ◌++◌, length, Some, None, Ok, Err, Option, Result, nat_le, if◌then◌else◌}
use Rattle.actions.specs.declared.pairs.Pair.{Pair}
use Rattle.actions.specs.declared.pairs.PairFault.{PairFault}
use Rattle.actions.specs.declared.pairs.PairFault.TheVariants.{Full, FromNoName, FromTwice, ToNoName}
use Rattle.actions.specs.declared.names.NameFault.{NameFault}
use Rattle.actions.specs.Pairs.{pair_fault}
use Rattle.actions.specs.Names.{name_fault}
use Rattle.frame.specs.declared.fault.FrameFault.{FrameFault}
use Rattle.frame.specs.declared.fault.FrameFault.TheVariants.{BadSetup}
use Rattle.frame.specs.declared.event.TheConstants.{EVENT_SIZE}
use Rattle.frame.specs.Frames.{SystemView, FrameView, pair_limit, name_limit, definition_limit, event_limit}
use Rattle.frame.specs.Frames.SystemView.{terms, net}
use Rattle.frame.specs.Frames.FrameView.{setup}

-- how far behind the first byte of a pair the byte stands that breaks a rule
abbrev pub fault_offset : PairFault → ℕ
fault_offset Full = 0
fault_offset FromNoName = 0
fault_offset FromTwice = 0
fault_offset ToNoName = 1

-- what follows from an answer, which a fault ends
abbrev pub result_and_then : {A B : Type 0}
    → (A → Result B FrameFault) → Result A FrameFault → Result B FrameFault
result_and_then next (Ok a) = next a
result_and_then next (Err f) = Err f

-- pairs and one more, whose first byte stands at the place
abbrev pub beside_answer : List Pair → Pair → ℕ → Option PairFault → Result (List Pair) FrameFault
beside_answer ps p place None = Ok (ps ++ p ∷ [])
beside_answer ps p place (Some f) = Err (BadSetup (place + fault_offset f))

abbrev pub pair_answer : List Pair → Pair → ℕ → Result (List Pair) FrameFault
pair_answer ps p place = beside_answer ps p place (pair_fault ps p)

-- pairs and those that bytes from the place on spell, one by one
unfoldable pub more_pairs : List Pair → ℕ → List ℕ → Result (List Pair) FrameFault
more_pairs ps place [] = Ok ps
more_pairs ps place (a ∷ []) = Ok ps
more_pairs ps place (a ∷ b ∷ s) =
    result_and_then (λ qs. more_pairs qs (place + 2) s)
    (pair_answer ps (record { from = a; to = b }) place)

-- the pairs of a setup, whose count stands at place 2
abbrev pub pairs_answer : List ℕ → Result (List Pair) FrameFault
pairs_answer s =
    if nat_le (length s) (2 * pair_limit) then more_pairs [] 3 s else Err (BadSetup 2)

-- an answer, or the place of the name that is refused
abbrev pub unless_refused :
    ℕ → Result (List ℕ) FrameFault → Option NameFault → Result (List ℕ) FrameFault
unless_refused place r None = r
unless_refused place r (Some f) = Err (BadSetup place)

-- names and those from the place on, one by one
unfoldable pub more_names : List ℕ → ℕ → List ℕ → Result (List ℕ) FrameFault
more_names ns place [] = Ok ns
more_names ns place (n ∷ s) =
    unless_refused place (more_names (ns ++ n ∷ []) (place + 1) s) (name_fault ns n)

-- the names of a setup, whose count stands at the place
abbrev pub names_answer : ℕ → List ℕ → Result (List ℕ) FrameFault
names_answer place s =
    if nat_le (length s) name_limit then more_names [] (place + 1) s else Err (BadSetup place)

-- whether there are at most 16 definitions, or 48 events
abbrev pub few : SystemView → Bool
few (terms bodies) = nat_le (length bodies) definition_limit
few (net events) = nat_le (length events) (EVENT_SIZE * event_limit)

-- what is told behind the names, where the count of the system stands at the place
abbrev pub behind_names :
    ℕ → List Pair → SystemView → Result (List ℕ) FrameFault → Result FrameView FrameFault
behind_names place ps system (Err f) = Err f
behind_names place ps system (Ok ns) =
    if few system then Ok (setup ps ns system) else Err (BadSetup place)

-- what is told behind the pairs, where the count of the names stands at the place
abbrev pub behind_pairs :
    ℕ → List ℕ → SystemView → Result (List Pair) FrameFault → Result FrameView FrameFault
behind_pairs place names system (Err f) = Err f
behind_pairs place names system (Ok ps) =
    behind_names (place + 1 + length names) ps system (names_answer place names)

-- a setup of these bytes of pairs, names and system
abbrev pub rules_answer : List ℕ → List ℕ → SystemView → Result FrameView FrameFault
rules_answer pairs names system =
    behind_pairs (3 + length pairs) names system (pairs_answer pairs)
