-- What is answered where a list is made of given items.
use Rattle.std.specs.Prelude.{ℕ, List, length, Some, None, Option, nat_le, if◌then◌else◌}

-- items, where there are at most n
abbrev pub list_within : {A : Type 0} → ℕ → List A → Option (List A)
list_within n items = if nat_le (length items) n then Some items else None
