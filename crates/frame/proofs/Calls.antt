-- A string within the limit is answered by its bytes.
use Rattle.std.proofs.Common.{◌≡◌, ℕ, ◌≤◌, leb, List, length, Err}
use Rattle.std.proofs.lemmas.Bool.{le-leb, cond-true}
use Rattle.frame.specs.declared.frame.TheConstants.{FRAME_LIMIT}
use Rattle.frame.specs.declared.fault.FrameFault.TheVariants.{Malformed}
use Rattle.frame.specs.Reading.{string_answer, frame_answer}

pub within_told : (s : List ℕ) → length s ≤ FRAME_LIMIT → frame_answer s ≡ string_answer s
within_told s h =
    cond-true (leb (length s) FRAME_LIMIT) (string_answer s) (Err (Malformed FRAME_LIMIT)) (le-leb _ _ h)
