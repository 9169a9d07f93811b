-- What a sink holds when bytes have been written to it.
use Rattle.std.specs.Prelude.{ℕ, min, ◌+◌, [], ◌∷◌, ◌++◌, length, take, Some, None, Option, Ok, Err, Result, nat_le, if◌then◌else◌}
use Rattle.steps.specs.declared.limits.TheConstants.{STATE_LIMIT}
use Rattle.steps.specs.Meaning.{Str}
use Rattle.residuals.specs.declared.sink.Sink.{Sink}

abbrev pub empty_sink : Sink
empty_sink = record { kept = []; len = 0 }

-- a byte is written behind what was: as many bytes as a state may have are kept, and 65,535 at most
-- are counted
abbrev pub with_byte : Sink → ℕ → Sink
with_byte s b = record { kept = take STATE_LIMIT (s.kept ++ b ∷ []); len = min (s.len + 1) 65535 }

-- a string is written behind it, likewise
abbrev pub sink_after : Sink → Str → Sink
sink_after s w = record {
  kept = take STATE_LIMIT (s.kept ++ w);
  len = min (s.len + length w) 65535;
}

-- what is answered of a string that may be: it is written behind what was
abbrev pub onto : Sink → Option Str → Option Sink
onto s (Some w) = Some (sink_after s w)
onto s None = None

-- what is in a sink that was lent: what is answered, or nothing that is told where there is no
-- answer
abbrev pub outcome : Option (Unit {0}) → Sink → Option Sink
outcome (Some tt) s = Some s
outcome None s = None

-- all, where it was kept and a buffer of n bytes has room; else the length that is needed
abbrev pub put_answer : Sink → ℕ → Result Str ℕ
put_answer s n = if nat_le s.len STATE_LIMIT
    then (if nat_le (length s.kept) n then Ok s.kept else Err s.len) else Err s.len
