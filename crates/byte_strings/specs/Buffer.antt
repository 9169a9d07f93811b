-- What is answered where a string is asked for in a lent buffer, and every byte of the buffer
-- afterwards.
use Rattle.std.specs.Prelude.{ℕ, List, ◌++◌, length, drop, Some, None, Ok, Err, Option, Result, nat_le, if◌then◌else◌}

-- a string of bytes
abbrev pub Str : Type 0
Str = List ℕ

-- a string written over the front of a buffer
abbrev pub over : Str → Str → Str
over w buffer = w ++ drop (length w) buffer

-- the length of a string that is answered, and the buffer afterwards: untouched where nothing is
-- answered
abbrev pub count : {F : Type 0} → Result Str F → Result ℕ F
count (Ok w) = Ok (length w)
count (Err f) = Err f

abbrev pub buffer_after : {F : Type 0} → Result Str F → Str → Str
buffer_after (Ok w) buffer = over w buffer
buffer_after (Err f) buffer = buffer

-- the same of an answer that may be none
abbrev pub count_some : {F : Type 0} → Result (Option Str) F → Result (Option ℕ) F
count_some (Ok (Some w)) = Ok (Some (length w))
count_some (Ok None) = Ok None
count_some (Err f) = Err f

abbrev pub buffer_after_some : {F : Type 0} → Result (Option Str) F → Str → Str
buffer_after_some (Ok (Some w)) buffer = over w buffer
buffer_after_some (Ok None) buffer = buffer
buffer_after_some (Err f) buffer = buffer

-- a string copied over the front of a buffer that has room for it
abbrev pub copy_length : Str → ℕ → Option ℕ
copy_length s n = if nat_le (length s) n then Some (length s) else None

abbrev pub buffer_after_copy : Str → Str → Str
buffer_after_copy s buffer = if nat_le (length s) (length buffer) then over s buffer else buffer
