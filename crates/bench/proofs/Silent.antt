-- Calls that answer nothing more than that they are accepted.
use Rattle.std.proofs.Common.{◌≡◌, ℕ, ◌-◌, Bool, true, false, cond, ltb, ◌&&◌, List, [], get_or, take, Some, None, Ok, Err, Option, Result, refl}
use Rattle.steps.specs.Meaning.{Str, Transitions, Independence}
use Rattle.steps.specs.declared.fault.MaskFault.{MaskFault}
use Rattle.steps.specs.Answers.{next_answer}
use Rattle.steps.proofs.Answered.{ok_not_err}
use Rattle.joins.specs.Exchange.{Pair, exchange_answer}
use Rattle.bench.specs.declared.fault.BenchFault.{BenchFault}
use Rattle.bench.specs.declared.fault.BenchFault.TheVariants.{NoSheet, WrongStanding, System, NoSuchStep, Dependent}
use Rattle.bench.specs.declared.sheet.Standing.{Standing}
use Rattle.bench.specs.declared.sheet.Standing.TheVariants.{Blank, Open, Released}
use Rattle.bench.specs.Page.{Page, blank_page}
use Rattle.bench.specs.Replay.{replayed, end_answer}
use Rattle.bench.specs.Calls.{Outcome, answered, accepted, then, from_system, when_open}
use Rattle.bench.specs.Swap.{with_neighbours, exchanged_on, swapped}
use Rattle.bench.specs.Table.{on_sheet}

Silent : Outcome → Type 0
Silent o = Ok tt ≡ accepted o → answered o ≡ Ok []

refused : (f : BenchFault) → Silent (Err f)
unfolding Silent
refused f e = ok_not_err tt f e

after_all : {A : Type 0} (r : Result A BenchFault) (k : A → Outcome) → ((a : A) → Silent (k a)) → Silent (then r k)
after_all (Ok a) k h = h a
after_all (Err f) k h = refused f

either : (b : Bool) (o q : Outcome) → Silent o → Silent q → Silent (cond b o q)
either true o q h k = h
either false o q h k = k

if_open : (p : Page) (o : Outcome) → Silent o → Silent (when_open p o)
if_open p o h = go p.standing
  where
    go : (s : Standing) → Silent (elim s as (λ _. Outcome) [ Blank ↦ Err (WrongStanding 1) | Open ↦ o | Released ↦ Err (WrongStanding 1) ])
    go Blank = refused (WrongStanding 1)
    go Open = h
    go Released = refused (WrongStanding 1)

done : (p : Page) → Silent (Ok (record { answer = []; page = p }))
unfolding Silent
done p e = refl

exchanged : (t : Transitions) (n : ℕ) (p : Page) (r : Result (Option Pair) MaskFault) → Silent (exchanged_on t n p r)
exchanged t n p (Err f) = refused (System f)
exchanged t n p (Ok None) = refused (Dependent n)
exchanged t n p (Ok (Some x)) =
    let last : Str → Outcome = λ _. Ok (record { answer = []; page = with_neighbours n x p }) in
    after_all (replayed t p.start (take (n - 1) p.rows)) (λ a. then (from_system (next_answer t a x.first 256)) last)
    (λ a. after_all (from_system (next_answer t a x.first 256)) last (λ _. done (with_neighbours n x p)))

swap_silent : (t : Transitions) (i : Independence) (n : ℕ) (p : Page) → Silent (swapped t i n p)
swap_silent t i n p =
    let o = exchanged_on t n p (exchange_answer i (get_or p.rows (n - 1) []) (get_or p.rows n [])) in
    let there = ltb 0 n && ltb n p.len in
    if_open p (then (end_answer t p) (λ _. cond there o (Err (NoSuchStep n))))
    (after_all (end_answer t p) (λ _. cond there o (Err (NoSuchStep n))) (λ _. either there o (Err (NoSuchStep n)) (exchanged t n p _) (refused (NoSuchStep n))))

pub swap_is_silent : (t : Transitions) (i : Independence) (ps : List Page) (s n : ℕ) → Ok tt ≡ accepted (on_sheet ps s (swapped t i n)) → answered (on_sheet ps s (swapped t i n)) ≡ Ok []
unfolding Silent
swap_is_silent t i ps s n = either (ltb s 4) (swapped t i n (get_or ps s blank_page)) (Err (NoSheet 1)) (swap_silent t i n (get_or ps s blank_page)) (refused (NoSheet 1))
