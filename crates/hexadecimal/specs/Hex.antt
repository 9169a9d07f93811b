-- Bytes as hexadecimal text, and the bytes that a line of text spells.
use Rattle.std.specs.Prelude.{◌≡◌, ℕ, ◌*◌, ◌/◌, ◌%◌, ◌≤◌, ◌↔◌, List, [], ◌∷◌, map, length, take, Some, None, Ok, Err, Option, Result, ◌==◌, if◌then◌else◌}
use Rattle.byte_strings.specs.Buffer.{copy_length, buffer_after_copy}
use Rattle.hexadecimal.specs.Digits.{digit_of, byte_of, capital}

-- two capital digits a byte
abbrev pub hex : List ℕ → List ℕ
hex [] = []
hex (b ∷ bs) = digit_of (b / 16) ∷ digit_of (b % 16) ∷ hex bs

-- what writing answers, and the buffer afterwards: untouched where the text does not fit
abbrev pub write_answer : List ℕ → ℕ → Option ℕ
write_answer bs n = copy_length (hex bs) n

abbrev pub buffer_after_write : List ℕ → List ℕ → List ℕ
buffer_after_write bs buffer = buffer_after_copy (hex bs) buffer

-- a byte before the bytes that follow it; nothing where it is none
abbrev pub byte_then : Option ℕ → List ℕ → List ℕ
byte_then (Some b) bs = b ∷ bs
byte_then None bs = []

-- the bytes that a line spells, up to its first bad digit or a lone last one
abbrev pub sound_bytes : List ℕ → List ℕ
sound_bytes [] = []
sound_bytes (a ∷ []) = []
sound_bytes (a ∷ b ∷ s) = byte_then (byte_of a b) (sound_bytes s)

-- all of the line, where these are the bytes of all of it; else how many there are
abbrev pub all_or_count : List ℕ → List ℕ → Result (List ℕ) ℕ
all_or_count line bs = if length line == 2 * length bs then Ok bs else Err (length bs)

-- what a line spells within n bytes; else how many sound bytes, at most n, stand before the fault
abbrev pub read_answer : List ℕ → ℕ → Result (List ℕ) ℕ
read_answer line n = all_or_count line (take n (sound_bytes line))

-- A line spells bytes: two digits each, and nothing else.
pub data Spells : List ℕ → List ℕ → Type 0 where
  nothing : Spells [] []
  byte : {a b v : ℕ} {s bs : List ℕ}
      → byte_of a b ≡ Some v → Spells s bs → Spells (a ∷ b ∷ s) (v ∷ bs)

-- A line is read as some bytes exactly where it spells them and they are no more than the limit.
abbrev pub ReadsWhatIsSpelled : Type 0
ReadsWhatIsSpelled = (line bs : List ℕ) (n : ℕ)
    → (read_answer line n ≡ Ok bs) ↔ (Spells line bs × (length bs ≤ n))

-- Reading what was written gives the bytes back, within every limit that they fit.
abbrev pub ReadsBack : List ℕ → Type 0
ReadsBack bs = (n : ℕ) → length bs ≤ n → read_answer (hex bs) n ≡ Ok bs

-- Letters read alike in both cases.
abbrev pub CasesReadAlike : Type 0
CasesReadAlike = (line : List ℕ) (n : ℕ) → read_answer (map capital line) n ≡ read_answer line n
