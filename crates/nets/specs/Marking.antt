-- Markings: which conditions hold, as one number and as eight bytes.
use Rattle.std.specs.Prelude.{◌≡◌, ℕ, ◌/◌, ◌%◌, ◌^◌, min, Bool, ◌&&◌, [], ◌∷◌, length, Ok, Err, Result, ◌==◌, if◌then◌else◌}
use Rattle.std.proofs.Math.Pow.{are_bytes}
use Rattle.std.specs.Int.Digits.{number_from_digits}
use Rattle.steps.specs.Meaning.{Str}

-- condition c is in the set that a number stands for: bit c is set
abbrev pub Holds : ℕ → ℕ → Type 0
Holds m c = m / 2 ^ c % 2 ≡ 1

-- a marking as eight bytes, the highest conditions first
abbrev pub bytes_of : ℕ → Str
bytes_of m =
    m / 2 ^ 56 % 256 ∷ m / 2 ^ 48 % 256 ∷ m / 2 ^ 40 % 256 ∷ m / 2 ^ 32 % 256
    ∷ m / 2 ^ 24 % 256 ∷ m / 2 ^ 16 % 256 ∷ m / 2 ^ 8 % 256 ∷ m % 256 ∷ []

abbrev pub eight_bytes : Str → Bool
eight_bytes s = length s == 8 && are_bytes s

-- the marking that a string stands for, or the place where a string of bytes ends too early or goes
-- on too long
abbrev pub read_marking : Str → Result ℕ ℕ
read_marking s = if eight_bytes s then Ok (number_from_digits 256 s) else Err (min (length s) 8)
