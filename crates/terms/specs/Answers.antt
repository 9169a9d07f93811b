-- What is checked of the strings that are given, and what is answered of a sink.
use Rattle.std.specs.Prelude.{ℕ, List, [], Some, None, Ok, Err, Option, Result}
use Rattle.steps.specs.Meaning.{Str}
use Rattle.steps.specs.declared.fault.MaskFault.{MaskFault}
use Rattle.steps.specs.declared.fault.MaskFault.TheVariants.{Inner}
use Rattle.steps.specs.declared.fault.SystemFault.{SystemFault}
use Rattle.steps.specs.declared.fault.SystemFault.TheVariants.{NoState, NoStep, StateTooLong}
use Rattle.ccs.specs.Syntax.{Term}
use Rattle.ccs.specs.System.{terms_transitions}
use Rattle.residuals.specs.declared.sink.Sink.{Sink}
use Rattle.residuals.specs.Sink.{put_answer}

abbrev pub check_answer : (ℕ → SystemFault) → Option ℕ → Result (Unit {0}) SystemFault
check_answer f None = Ok tt
check_answer f (Some k) = Err (f k)

abbrev pub state_check_answer : List Term → Str → Result (Unit {0}) SystemFault
state_check_answer ds s = check_answer NoState ((terms_transitions ds).bad_state s)

-- of a step it is the same whatever the definitions are
abbrev pub step_check_answer : Str → Result (Unit {0}) SystemFault
step_check_answer x = check_answer NoStep ((terms_transitions []).bad_step x)

-- a state that was written, or that it is too long
abbrev pub state_or_length : Result Str ℕ → Result Str MaskFault
state_or_length (Ok w) = Ok w
state_or_length (Err needed) = Err (Inner (StateTooLong needed))

abbrev pub state_put : Sink → ℕ → Result Str MaskFault
state_put s n = state_or_length (put_answer s n)
