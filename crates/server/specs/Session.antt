-- What a byte of input does, where l is the whole line so far, and what the end of the input does.
use Rattle.std.specs.Prelude.{◌≡◌, ℕ, cond, [], ◌∷◌, ◌++◌, take, Some, Option, ◌==◌, nat_le}
use Rattle.byte_strings.specs.Buffer.{Str}
use Rattle.server.specs.Text.{text_limit}
use Rattle.server.specs.Answer.{Model, model_of, line_reply, reply_length, reply_buffer, reply_model}
use Rattle.server.specs.declared.session.Session.{Session}

-- the server of a session, and what it keeps of the line that is being read
abbrev pub session_model : Session → Model
session_model s = model_of s.server

abbrev pub kept_line : Session → Str
kept_line s = s.line

-- how much of a line is kept
abbrev pub line_limit : ℕ
line_limit = 2049

-- the beginning that is kept is answered like the whole line
abbrev pub SameAnswer : Type 0
SameAnswer = (m : Model) (l : Str) → line_reply m (take line_limit l) ≡ line_reply m l

-- a line end answers the line, where there is room for the longest text; any other byte goes on with it
abbrev pub taken_length : Model → Str → ℕ → ℕ → Option ℕ
taken_length m l byte n = cond (byte == 10) (reply_length (line_reply m l) n) (Some 0)

abbrev pub taken_buffer : Model → Str → ℕ → Str → Str
taken_buffer m l byte out = cond (byte == 10) (reply_buffer (line_reply m l) out) out

abbrev pub taken_model : Model → Str → ℕ → ℕ → Model
taken_model m l byte n = cond (byte == 10) (reply_model (line_reply m l) n m) m

abbrev pub taken_line : Str → ℕ → ℕ → Str
taken_line l byte n = cond (byte == 10) (cond (nat_le text_limit n) [] l) (l ++ byte ∷ [])
