-- Steps within the limit, which the questions to a step system take.
use Rattle.std.specs.Prelude.{◌≡◌, ◌≤◌, true, List, [], ◌∷◌, length}
use Rattle.steps.specs.Meaning.{Str, Transitions}
use Rattle.steps.specs.Laws.{step_limit}

abbrev pub ShortStep : Transitions → Str → Type 0
ShortStep t x = (t.step x ≡ true) × (length x ≤ step_limit)

abbrev pub ShortSteps : Transitions → List Str → Type 0
ShortSteps t [] = Unit {0}
ShortSteps t (x ∷ xs) = ShortStep t x × ShortSteps t xs
