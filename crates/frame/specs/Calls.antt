-- The calls, and the bytes that name them.
use Rattle.std.specs.Prelude.{ℕ, List, [], ◌∷◌, Some, None, Option, ◌==◌, if◌then◌else◌}
use Rattle.std.specs.Borrow.{Bor}
use Rattle.frame.specs.declared.call.Call.{Call}
use Rattle.frame.specs.declared.call.Call.TheVariants.{Setup, Open, Add, Swap, Withdraw, Join, Release, Reopen, Print, Look}
use Rattle.frame.specs.declared.call.TheConstants.{SETUP, OPEN, ADD, SWAP, WITHDRAW, JOIN, RELEASE, REOPEN, PRINT, LOOK}

-- the call that a byte names
abbrev pub call_of : ℕ → Option Call
call_of byte =
    if byte == SETUP then Some Setup
    else if byte == OPEN then Some Open
    else if byte == ADD then Some Add
    else if byte == SWAP then Some Swap
    else if byte == WITHDRAW then Some Withdraw
    else if byte == JOIN then Some Join
    else if byte == RELEASE then Some Release
    else if byte == REOPEN then Some Reopen
    else if byte == PRINT then Some Print
    else if byte == LOOK then Some Look
    else None

-- a call, if there is one, with what stands behind its byte
abbrev pub with_rest : Option Call → List ℕ → Option (Call × List ℕ)
with_rest None rest = None
with_rest (Some call) rest = Some (call, rest)

-- the call that a string begins with, and what stands behind its byte
abbrev pub head_answer : List ℕ → Option (Call × List ℕ)
head_answer [] = None
head_answer (byte ∷ rest) = with_rest (call_of byte) rest

abbrev pub head_view : Option (Call × Bor (List ℕ)) → Option (Call × List ℕ)
head_view None = None
head_view (Some (call, rest)) = Some (call, rest.now)
