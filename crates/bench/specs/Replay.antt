-- What the replay of a sheet in a system gives: its end, or the step that stops it and why.
use Rattle.std.specs.Prelude.{ℕ, ◌+◌, List, [], ◌∷◌, Ok, Err, Result}
use Rattle.steps.specs.Meaning.{Str, Transitions}
use Rattle.steps.specs.Answers.{state_answer, next_answer}
use Rattle.bench.specs.declared.fault.BenchFault.{BenchFault}
use Rattle.bench.specs.declared.fault.BenchFault.TheVariants.{WrongStanding, Stopped}
use Rattle.bench.specs.declared.sheet.Standing.{Standing}
use Rattle.bench.specs.declared.sheet.Standing.TheVariants.{Blank, Open, Released}
use Rattle.bench.specs.Page.{Page, steps_of}

-- the state that steps lead to, the first of them numbered k
abbrev pub followed : Transitions → Str → List Str → ℕ → Result Str BenchFault
followed t a [] k = Ok a
followed t a (x ∷ xs) k = elim (next_answer t a x 256) [ Ok b ↦ followed t b xs (k + 1) | Err f ↦ Err (Stopped k f) ]

abbrev pub replayed : Transitions → Str → List Str → Result Str BenchFault
replayed t a xs = elim (state_answer t a) [ Ok _ ↦ followed t a xs 1 | Err f ↦ Err (Stopped 0 f) ]

-- the end of a sheet
abbrev pub end_answer : Transitions → Page → Result Str BenchFault
end_answer t p = replayed t p.start (steps_of p)

-- the end of a sheet that has to have a standing
abbrev pub ended : Transitions → Standing → Page → Result Str BenchFault
ended t s p =
    elim s [
      | Blank ↦ elim p.standing [ Blank ↦ end_answer t p | Open ↦ Err (WrongStanding 1) | Released ↦ Err (WrongStanding 1) ]
      | Open ↦ elim p.standing [ Blank ↦ Err (WrongStanding 1) | Open ↦ end_answer t p | Released ↦ Err (WrongStanding 1) ]
      | Released ↦ elim p.standing [ Blank ↦ Err (WrongStanding 1) | Open ↦ Err (WrongStanding 1) | Released ↦ end_answer t p ]
    ]
