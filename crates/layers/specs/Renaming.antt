-- A step system whose steps show other names.
use Rattle.std.specs.Prelude.{List}
use Rattle.actions.specs.declared.pairs.Pair.{Pair}
use Rattle.actions.specs.Pairs.{replacement}
use Rattle.steps.specs.declared.label.Label.{Label}
use Rattle.steps.specs.Meaning.{Transitions}

-- a label with its name replaced
abbrev pub renamed_label : List Pair → Label → Label
renamed_label pairs l = record l { action = replacement pairs l.action }

-- Every step shows its label with the name replaced. All else is as inside, independence too.
abbrev pub renaming_transitions : List Pair → Transitions → Transitions
renaming_transitions pairs t = record t { label = λ x. renamed_label pairs (t.label x) }
