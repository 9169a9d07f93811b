-- When runs from one start agree: some run from there extends both.
use Rattle.std.specs.Prelude.{List}
use Rattle.steps.specs.Meaning.{Str, Transitions, Independence}
use Rattle.runs.specs.Run.{Run}
use Rattle.runs.specs.Exchange.{Extends}

abbrev pub Compatible : Transitions → Independence → Str → List Str → List Str → Type 0
Compatible t i a s e = (r : List Str) × (b : Str) × Run t a r b × Extends i r s × Extends i r e
