-- What the server answers to a line, and what it keeps afterwards.
use Rattle.std.specs.Prelude.{ℕ, cond, List, [], ◌∷◌, length, Some, None, Ok, Err, Option, Result, nat_le}
use Rattle.byte_strings.specs.Buffer.{Str, over}
use Rattle.hexadecimal.specs.Hex.{read_answer}
use Rattle.hexadecimal.specs.Line.{line}
use Rattle.steps.specs.Meaning.{Transitions, Independence}
use Rattle.bench.specs.Page.{Page}
use Rattle.bench.specs.Calls.{Outcome, answered, opened, added, withdrawn, released, reopened}
use Rattle.bench.specs.Swap.{swapped}
use Rattle.bench.specs.Join.{joined}
use Rattle.bench.specs.Print.{printed}
use Rattle.bench.specs.Look.{looked}
use Rattle.bench.specs.Table.{pages_of, on_sheet, pages_after, page_at, standing_of}
use Rattle.bench.specs.declared.sheet.Standing.{Standing}
use Rattle.frame.specs.declared.fault.FrameFault.{FrameFault}
use Rattle.frame.specs.declared.fault.FrameFault.TheVariants.{Malformed}
use Rattle.frame.specs.Refusals.{frame_refusal}
use Rattle.frame.specs.Frames.{FrameView}
use Rattle.frame.specs.Frames.FrameView.{setup, open_sheet, add, swap, withdraw, join, release, reopen, print, look}
use Rattle.frame.specs.Reading.{frame_answer}
use Rattle.server.specs.declared.server.Server.{Server}
use Rattle.server.specs.Text.{refusal_line, call_text, print_text, text_limit}
use Rattle.systems.specs.Layered.{Layered, layered_of, layered_transitions, layered_independence}
use Rattle.server.specs.LayeredSetup.{layered_answer}

-- the system, and the four sheets
pub record Model : Type 0 where
  pub system : Layered
  pub pages : List Page

abbrev pub model_of : Server → Model
model_of s = record { system = layered_of s.system; pages = pages_of s.bench }

-- an answer's text, and what is kept afterwards
pub record Reply : Type 0 where
  pub text : Str
  pub model : Model

abbrev pub refused : Model → FrameFault → Reply
refused m f = record { text = refusal_line (frame_refusal f); model = m }

-- what a setup tells that leaves this model
abbrev pub set_up_answer : Result (Unit {0}) FrameFault → Model → Reply
set_up_answer (Ok done) m = record { text = line (0 ∷ []); model = m }
set_up_answer (Err f) m = refused m f

-- a setup replaces the system and leaves the sheets
abbrev pub setup_reply : Model → Result Layered FrameFault → Reply
setup_reply m (Ok l) = record { text = line (0 ∷ []); model = record { system = l; pages = m.pages } }
setup_reply m (Err f) = refused m f

-- a call on a sheet
abbrev pub sheet_reply : Model → ℕ → Outcome → Reply
sheet_reply m s o = record { text = call_text (answered o); model = record { system = m.system; pages = pages_after o m.pages s } }

-- a look and a print change nothing
abbrev pub look_reply : Model → Outcome → Reply
look_reply m o = record { text = call_text (answered o); model = m }

abbrev pub print_reply : Model → Outcome → Reply
print_reply m o = record { text = print_text (answered o); model = m }

-- the standing of the sheet that a frame names first, if there is one
abbrev pub named_standing : List Page → Option ℕ → Option Standing
named_standing ps None = None
named_standing ps (Some s) = standing_of (page_at ps s)

abbrev pub system_of : Model → Transitions
system_of m = layered_transitions m.system

abbrev pub reworking_of : Model → Independence
reworking_of m = layered_independence m.system

abbrev pub frame_reply : Model → FrameView → Reply
frame_reply m (setup pairs names system) = setup_reply m (layered_answer pairs names system)
frame_reply m (open_sheet s state) = sheet_reply m s (on_sheet m.pages s (opened (system_of m) state))
frame_reply m (add s step) = sheet_reply m s (on_sheet m.pages s (added (system_of m) step 256))
frame_reply m (swap s place) = sheet_reply m s (on_sheet m.pages s (swapped (system_of m) (reworking_of m) place))
frame_reply m (withdraw s) = sheet_reply m s (on_sheet m.pages s (withdrawn (system_of m) 256))
frame_reply m (join s e) = sheet_reply m s (on_sheet m.pages s (joined (system_of m) (reworking_of m) (page_at m.pages e)))
frame_reply m (release s) = sheet_reply m s (on_sheet m.pages s (released (system_of m)))
frame_reply m (reopen s) = sheet_reply m s (on_sheet m.pages s (reopened (system_of m)))
frame_reply m (print s) = print_reply m (on_sheet m.pages s (printed (system_of m) text_limit))
frame_reply m (look s k) = look_reply m (on_sheet m.pages s (looked (system_of m) k 256))

-- a frame's bytes
abbrev pub bytes_reply : Model → Result FrameView FrameFault → Reply
bytes_reply m (Ok f) = frame_reply m f
bytes_reply m (Err f) = refused m f

-- a line
abbrev pub read_reply : Model → Result Str ℕ → Reply
read_reply m (Ok bytes) = bytes_reply m (frame_answer bytes)
read_reply m (Err place) = refused m (Malformed place)

abbrev pub line_reply : Model → Str → Reply
line_reply m l = read_reply m (read_answer l 1024)

-- what is answered, left in a buffer and kept, where the buffer has room for the longest text; else nothing is done
abbrev pub reply_length : Reply → ℕ → Option ℕ
reply_length r n = cond (nat_le text_limit n) (Some (length r.text)) None

abbrev pub reply_buffer : Reply → Str → Str
reply_buffer r buffer = cond (nat_le text_limit (length buffer)) (over r.text buffer) buffer

abbrev pub reply_model : Reply → ℕ → Model → Model
reply_model r n m = cond (nat_le text_limit n) r.model m
