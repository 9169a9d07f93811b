-- Actions and names, as numbers.
use Rattle.std.specs.Prelude.{ℕ, ◌+◌, ◌-◌, Bool, ◌&&◌, ◌||◌, nat_eq, nat_le, if◌then◌else◌}

-- names are 1 to 63
abbrev pub is_name : ℕ → Bool
is_name n = nat_le 1 n && nat_le n 63

-- a co-name is its name plus 64
abbrev pub is_co_name : ℕ → Bool
is_co_name a = nat_le 65 a && nat_le a 127

-- 0 is silent
abbrev pub is_action : ℕ → Bool
is_action a = nat_eq a 0 || (is_name a || is_co_name a)

-- the name of a name or a co-name; 0, which is no name, of the silent action
abbrev pub name_of : ℕ → ℕ
name_of a = if nat_le a 63 then a else a - 64

-- a name and its co-name, in either order
abbrev pub complementary : ℕ → ℕ → Bool
complementary a b = (is_name a && nat_eq b (a + 64)) || (is_name b && nat_eq a (b + 64))
