-- Which names a list takes, and which actions it hides.
use Rattle.std.specs.Prelude.{◌≡◌, ℕ, ◌+◌, Bool, true, ◌&&◌, ◌⊎◌, ◌↔◌, List, [], ◌∷◌, ◌++◌, length, Some, None, Ok, Err, Option, Result, nat_lt, nat_eq, IsTrue, if◌then◌else◌}
use Rattle.std.specs.List.{list_any, Contains}
use Rattle.actions.specs.declared.names.TheConstants.{NAME_LIMIT}
use Rattle.actions.specs.declared.names.NameFault.{NameFault}
use Rattle.actions.specs.declared.names.NameFault.TheVariants.{Full, NoName}
use Rattle.actions.specs.Action.{is_name, name_of}

-- the most names of a list
abbrev pub name_limit : ℕ
name_limit = NAME_LIMIT

-- names only
abbrev pub all_names : List ℕ → Bool
all_names [] = true
all_names (n ∷ ns) = is_name n && all_names ns

-- why a list of these names does not take one more, if so
abbrev pub name_fault : List ℕ → ℕ → Option NameFault
name_fault ns n =
    if nat_lt (length ns) name_limit then (if is_name n then None else Some NoName) else Some Full

-- what adding a name answers, and the names afterwards
abbrev pub name_answer : Option NameFault → Result (Unit {0}) NameFault
name_answer None = Ok tt
name_answer (Some f) = Err f

abbrev pub names_after : Option NameFault → List ℕ → ℕ → List ℕ
names_after None ns n = ns ++ n ∷ []
names_after (Some f) ns n = ns

-- whether the name that an action shows is listed
abbrev pub hides : List ℕ → ℕ → Bool
hides ns a = list_any (λ n. nat_eq n (name_of a)) ns

-- The actions that names hide are these names and their co-names, so never the silent one.
abbrev pub HidesListed : List ℕ → ℕ → Type 0
HidesListed ns a =
    IsTrue (hides ns a)
    ↔ ((n : ℕ) × IsTrue (is_name n) × Contains ns n × ((a ≡ n) ⊎ (a ≡ n + 64)))
