-- A look back at the first steps of a sheet.
use Rattle.std.specs.Prelude.{ℕ, cond, take, Ok, Err, nat_le}
use Rattle.steps.specs.Meaning.{Transitions}
use Rattle.steps.specs.Answers.{fitting_state}
use Rattle.bench.specs.declared.fault.BenchFault.TheVariants.{WrongStanding, NoSuchStep}
use Rattle.bench.specs.declared.sheet.Standing.TheVariants.{Blank, Open, Released}
use Rattle.bench.specs.Page.{Page}
use Rattle.bench.specs.Replay.{replayed, end_answer}
use Rattle.bench.specs.Calls.{Outcome, then, from_system}

abbrev pub when_begun : Page → Outcome → Outcome
when_begun p o = elim p.standing [ Blank ↦ Err (WrongStanding 1) | Open ↦ o | Released ↦ o ]

-- a look at the first k steps of a sheet that replays as a whole, its answer asked for in a buffer of n bytes; it changes nothing
abbrev pub looked : Transitions → ℕ → ℕ → Page → Outcome
looked t k n p =
    when_begun p (then (end_answer t p) (λ _.
    cond (nat_le k p.len)
    (then (replayed t p.start (take k p.rows)) (λ a.
    then (from_system (fitting_state a n)) (λ b. Ok (record { answer = b; page = p }))))
    (Err (NoSuchStep k))))
