-- What each call on a sheet answers, and what the sheet holds afterwards.
use Rattle.std.specs.Prelude.{ℕ, ◌+◌, ◌-◌, cond, [], take, Ok, Err, Result, nat_lt, slice_set}
use Rattle.steps.specs.Meaning.{Str, Transitions}
use Rattle.steps.specs.declared.fault.MaskFault.{MaskFault}
use Rattle.steps.specs.Answers.{state_answer, next_answer, fitting_state}
use Rattle.bench.specs.declared.fault.BenchFault.{BenchFault}
use Rattle.bench.specs.declared.fault.BenchFault.TheVariants.{WrongStanding, System, Full, NoSuchStep}
use Rattle.bench.specs.declared.sheet.Standing.{Standing}
use Rattle.bench.specs.declared.sheet.Standing.TheVariants.{Blank, Open, Released}
use Rattle.bench.specs.Page.{Page}
use Rattle.bench.specs.Replay.{replayed, end_answer}

-- an accepted call: what it answers, and the page that it leaves
pub record Done : Type 0 where
  pub answer : Str
  pub page : Page

abbrev pub Outcome : Type 0
Outcome = Result Done BenchFault

abbrev pub answered : Outcome → Result Str BenchFault
answered (Ok d) = Ok d.answer
answered (Err f) = Err f

-- whether the call was accepted, where it answers nothing more
abbrev pub accepted : Outcome → Result (Unit {0}) BenchFault
accepted (Ok d) = Ok tt
accepted (Err f) = Err f

-- a refused call leaves the page as it was
abbrev pub after : Outcome → Page → Page
after (Ok d) p = d.page
after (Err f) p = p

-- the first refusal, or what comes of the answer
abbrev pub then : {A B : Type 0} → Result A BenchFault → (A → Result B BenchFault) → Result B BenchFault
then (Ok a) k = k a
then (Err f) k = Err f

abbrev pub from_system : {A : Type 0} → Result A MaskFault → Result A BenchFault
from_system (Ok a) = Ok a
from_system (Err f) = Err (System f)

abbrev pub when_open : Page → Outcome → Outcome
when_open p o = elim p.standing [ Blank ↦ Err (WrongStanding 1) | Open ↦ o | Released ↦ Err (WrongStanding 1) ]

abbrev pub when_released : Page → Outcome → Outcome
when_released p o = elim p.standing [ Blank ↦ Err (WrongStanding 1) | Open ↦ Err (WrongStanding 1) | Released ↦ o ]

abbrev pub when_blank : Page → Outcome → Outcome
when_blank p o = elim p.standing [ Blank ↦ o | Open ↦ Err (WrongStanding 1) | Released ↦ Err (WrongStanding 1) ]

abbrev pub when_standing : Standing → Page → Outcome → Outcome
when_standing s p o = elim s [ Blank ↦ when_blank p o | Open ↦ when_open p o | Released ↦ when_released p o ]

abbrev pub unless_released : Page → Outcome → Outcome
unless_released p o = elim p.standing [ Blank ↦ o | Open ↦ o | Released ↦ Err (WrongStanding 1) ]

module _ (t : Transitions) where
  -- an opening: the given state is the start, and there are no steps
  abbrev pub opened : Str → Page → Outcome
  opened s p = unless_released p (elim (state_answer t s) [ Ok _ ↦ Ok (record { answer = []; page = record { standing = Open; len = 0; start = s; rows = p.rows } }) | Err f ↦ Err (System f) ])

  -- an add, its answer asked for in a buffer of n bytes: the step comes last
  abbrev pub added : Str → ℕ → Page → Outcome
  added x n p =
      when_open p (then (end_answer t p) (λ a.
      cond (nat_lt p.len 32)
      (then (from_system (next_answer t a x n)) (λ b. Ok (record { answer = b; page = record { standing = Open; len = p.len + 1; start = p.start; rows = slice_set p.rows p.len x } })))
      (Err Full)))

  -- a withdrawal, its answer asked for in a buffer of n bytes: the last step goes
  abbrev pub withdrawn : ℕ → Page → Outcome
  withdrawn n p =
      when_open p (then (end_answer t p) (λ _.
      cond (nat_lt 0 p.len)
      (then (replayed t p.start (take (p.len - 1) p.rows)) (λ a.
      then (from_system (fitting_state a n)) (λ b. Ok (record { answer = b; page = record { standing = Open; len = p.len - 1; start = p.start; rows = p.rows } }))))
      (Err (NoSuchStep 0))))

  -- a sheet of one standing is given another
  abbrev pub restood : Standing → Standing → Page → Outcome
  restood from to p = when_standing from p (then (end_answer t p) (λ _. Ok (record { answer = []; page = record { standing = to; len = p.len; start = p.start; rows = p.rows } })))

  abbrev pub released : Page → Outcome
  released p = when_open p (then (end_answer t p) (λ _. Ok (record { answer = []; page = record { standing = Released; len = p.len; start = p.start; rows = p.rows } })))

  abbrev pub reopened : Page → Outcome
  reopened p = when_released p (then (end_answer t p) (λ _. Ok (record { answer = []; page = record { standing = Open; len = p.len; start = p.start; rows = p.rows } })))
