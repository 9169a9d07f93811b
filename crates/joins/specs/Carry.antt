-- What comes of a step that is carried through a list, as the theory of joins has it.
use Rattle.std.specs.Prelude.{List, Some, None, Ok, Err, Option, Result}
use Rattle.steps.specs.Meaning.{Str}
use Rattle.runs.specs.Join.{Carried}
use Rattle.runs.specs.Join.Carried.{clash, gone, kept}
use Rattle.joins.specs.declared.meet.Clash.{Clash}

abbrev pub carry_answer : Result (Option Str × List Str) Clash → Carried
carry_answer (Ok (None, remains)) = gone remains
carry_answer (Ok (Some rest, remains)) = kept rest remains
carry_answer (Err f) = clash
