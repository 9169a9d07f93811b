-- What a step does that meets another, as the theory of joins has it.
use Rattle.std.specs.Prelude.{Some, None, Ok, Err, Option, Result}
use Rattle.runs.specs.Join.{Met}
use Rattle.runs.specs.Join.Met.{same, passes, hits}
use Rattle.joins.specs.declared.meet.Clash.{Clash}
use Rattle.joins.specs.declared.meet.Passed.{Passed}

abbrev pub meet_answer : Result (Option Passed) Clash → Met
meet_answer (Ok None) = same
meet_answer (Ok (Some p)) = passes p.y p.x
meet_answer (Err f) = hits
