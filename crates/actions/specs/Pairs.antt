-- Which pairs of names a list takes, and what they make of an action.
use Rattle.std.specs.Prelude.{◌≡◌, ◌≢◌, ℕ, ◌+◌, Bool, true, not, ◌&&◌, List, [], ◌∷◌, ◌++◌, length, is_some, Some, None, Ok, Err, Option, Result, nat_lt, nat_le, nat_eq, IsTrue, if◌then◌else◌}
use Rattle.std.specs.List.{Contains}
use Rattle.actions.specs.declared.pairs.TheConstants.{PAIR_LIMIT}
use Rattle.actions.specs.declared.pairs.Pair.{Pair}
use Rattle.actions.specs.declared.pairs.PairFault.{PairFault}
use Rattle.actions.specs.declared.pairs.PairFault.TheVariants.{Full, FromNoName, FromTwice, ToNoName}
use Rattle.actions.specs.Action.{is_name, name_of, complementary}

-- the most pairs of a list
abbrev pub pair_limit : ℕ
pair_limit = PAIR_LIMIT

-- the name that is put in the place of a name
abbrev pub to_of : List Pair → ℕ → Option ℕ
to_of [] n = None
to_of (p ∷ ps) n = if nat_eq p.from n then Some p.to else to_of ps n

-- names only, and none with two pairs
abbrev pub sound_pairs : List Pair → Bool
sound_pairs [] = true
sound_pairs (p ∷ ps) =
    (is_name p.from && is_name p.to) && (not (is_some (to_of ps p.from)) && sound_pairs ps)

-- what is wrong with a pair beside these
abbrev pub beside_fault : List Pair → Pair → Option PairFault
beside_fault ps p =
    if is_name p.from
    then (if is_some (to_of ps p.from) then Some FromTwice
    else if is_name p.to then None else Some ToNoName)
    else Some FromNoName

-- why a list of these pairs does not take one more, if so
abbrev pub pair_fault : List Pair → Pair → Option PairFault
pair_fault ps p = if nat_lt (length ps) pair_limit then beside_fault ps p else Some Full

-- what adding a pair answers, and the pairs afterwards
abbrev pub pair_answer : Option PairFault → Result (Unit {0}) PairFault
pair_answer None = Ok tt
pair_answer (Some f) = Err f

abbrev pub pairs_after : Option PairFault → List Pair → Pair → List Pair
pairs_after None ps p = ps ++ p ∷ []
pairs_after (Some f) ps p = ps

-- an action with a name in the place of its own, if there is one; a co-name stays a co-name
abbrev pub with_name : ℕ → Option ℕ → ℕ
with_name a None = a
with_name a (Some n) = if nat_le a 63 then n else n + 64

-- an action with its name replaced
abbrev pub replacement : List Pair → ℕ → ℕ
replacement ps a = with_name a (to_of ps (name_of a))

-- Pairs replace the names that they list, in names and in co-names, and nothing else; the silent
-- action stays silent.
pub record RenamesNames (ps : List Pair) : Type 0 where
  pub listed : (p : Pair) → Contains ps p
      → (replacement ps p.from ≡ p.to) × (replacement ps (p.from + 64) ≡ p.to + 64)
  pub others : (a : ℕ) → ((p : Pair) → Contains ps p → p.from ≢ name_of a) → replacement ps a ≡ a
  pub silent : replacement ps 0 ≡ 0
  pub complements : (a b : ℕ) → IsTrue (complementary a b)
      → IsTrue (complementary (replacement ps a) (replacement ps b))
