-- A swap of neighbours on a sheet.
use Rattle.std.specs.Prelude.{ℕ, ◌-◌, cond, ◌&&◌, [], take, Some, None, Ok, Err, Option, Result, nat_lt, slice_index_or, slice_set}
use Rattle.steps.specs.Meaning.{Transitions, Independence}
use Rattle.steps.specs.declared.fault.MaskFault.{MaskFault}
use Rattle.steps.specs.Answers.{next_answer}
use Rattle.joins.specs.Exchange.{Pair, exchange_answer}
use Rattle.bench.specs.declared.fault.BenchFault.TheVariants.{System, NoSuchStep, Dependent}
use Rattle.bench.specs.declared.sheet.Standing.TheVariants.{Open}
use Rattle.bench.specs.Page.{Page}
use Rattle.bench.specs.Replay.{replayed, end_answer}
use Rattle.bench.specs.Calls.{Outcome, then, from_system, when_open}

-- two neighbours in the place of the steps n and n + 1, counted from 1
abbrev pub with_neighbours : ℕ → Pair → Page → Page
with_neighbours n x p = record { standing = Open; len = p.len; start = p.start; rows = slice_set (slice_set p.rows (n - 1) x.first) n x.second }

-- what comes of exchanging them: a step that is too long, none, or two whose one new state may be too long
abbrev pub exchanged_on : Transitions → ℕ → Page → Result (Option Pair) MaskFault → Outcome
exchanged_on t n p (Err f) = Err (System f)
exchanged_on t n p (Ok None) = Err (Dependent n)
exchanged_on t n p (Ok (Some x)) =
    then (replayed t p.start (take (n - 1) p.rows)) (λ a.
    then (from_system (next_answer t a x.first 256)) (λ _.
    Ok (record { answer = []; page = with_neighbours n x p })))

-- a swap of the steps n and n + 1
abbrev pub swapped : Transitions → Independence → ℕ → Page → Outcome
swapped t i n p =
    when_open p (then (end_answer t p) (λ _.
    cond (nat_lt 0 n && nat_lt n p.len)
    (exchanged_on t n p (exchange_answer i (slice_index_or p.rows (n - 1) []) (slice_index_or p.rows n [])))
    (Err (NoSuchStep n))))
