-- The hexadecimal digits, as ASCII codes.
use Rattle.std.specs.Prelude.{ℕ, ◌+◌, ◌-◌, ◌*◌, Bool, ◌&&◌, Some, None, Option, nat_le, nat_lt, if◌then◌else◌}

-- the capital digit of a value below 16
abbrev pub digit_of : ℕ → ℕ
digit_of v = if nat_lt v 10 then 48 + v else 55 + v

-- from low to high, both included
abbrev pub is_between : ℕ → ℕ → ℕ → Bool
is_between low high c = nat_le low c && nat_le c high

-- the value of a digit 0 to 9, A to F or a to f; none for any other character
abbrev pub value_of : ℕ → Option ℕ
value_of c =
    if is_between 48 57 c then Some (c - 48)
    else if is_between 65 70 c then Some (c - 55)
    else if is_between 97 102 c then Some (c - 87)
    else None

-- the byte that the values of two digits spell, if both are digits
abbrev pub byte_of_values : Option ℕ → Option ℕ → Option ℕ
byte_of_values (Some high) (Some low) = Some (16 * high + low)
byte_of_values (Some high) None = None
byte_of_values None low = None

abbrev pub byte_of : ℕ → ℕ → Option ℕ
byte_of high low = byte_of_values (value_of high) (value_of low)

-- a letter a to f as its capital; any other character as it is
abbrev pub capital : ℕ → ℕ
capital c = if is_between 97 102 c then c - 32 else c
