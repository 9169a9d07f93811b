-- Answer lines: what an accepted call answers, and how refusals are told.
use Rattle.std.specs.Prelude.{◌≡◌, ℕ, ◌≤◌, [], ◌∷◌, ◌++◌, length, Some, None, Ok, Err, Option, Result}
use Rattle.byte_strings.specs.Buffer.{Str, over}
use Rattle.hexadecimal.specs.Line.{line}
use Rattle.steps.specs.declared.fault.Refusal.{Refusal}
pub use Rattle.steps.specs.Refusals.{refusal_bytes}
use Rattle.bench.specs.declared.fault.BenchFault.{BenchFault}
use Rattle.bench.specs.Refusals.{bench_refusal, beneath}
use Rattle.frame.specs.Refusals.{frame_refusal}
use Rattle.server.specs.declared.fault.Fault.{Fault}
use Rattle.server.specs.declared.fault.Fault.TheVariants.{Frame, Call}

-- the longest text of an answer
abbrev pub text_limit : ℕ
text_limit = 5222

abbrev pub refusal_line : Refusal → Str
refusal_line r = line (refusal_bytes r)

-- the refusal beneath another, where there is one
abbrev pub beneath_bytes : Option Refusal → Str
beneath_bytes None = []
beneath_bytes (Some r) = refusal_bytes r

abbrev pub fault_line : BenchFault → Str
fault_line f = line (refusal_bytes (bench_refusal f) ++ beneath_bytes (beneath f))

-- the answer to a call: a zero byte and what is answered, or the refusal
abbrev pub call_text : Result Str BenchFault → Str
call_text (Ok bytes) = line (0 ∷ bytes)
call_text (Err f) = fault_line f

-- a printed text stands by itself
abbrev pub print_text : Result Str BenchFault → Str
print_text (Ok text) = text
print_text (Err f) = fault_line f

-- the line that tells why a line is refused
abbrev pub told_line : Fault → Str
told_line (Frame f) = refusal_line (frame_refusal f)
told_line (Call f) = fault_line f

-- A text is answered in a buffer: it stands over the front and its length is told, or nothing is written and a fault tells it.
abbrev pub Answers : Str → Result ℕ Fault → Str → Str → Type 0
Answers text (Ok n) old new = (n ≡ length text) × (new ≡ over text old) × (n ≤ text_limit)
Answers text (Err f) old new = (text ≡ told_line f) × (new ≡ old)
