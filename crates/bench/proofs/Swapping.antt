-- How a swap comes out.
use Rattle.std.proofs.Common.{◌≡◌, ℕ, ◌-◌, ◌<◌, ◌≤◌, ◌&&◌, ltb, ◌⊎◌, [], get_or, take, Some, None, Ok, Err, Option, Result, sym, ap, ◌∙◌, inl, inr, arith}
use Rattle.std.proofs.lemmas.Bool.{cond-true, cond-false, lt-ltb, le-ltb, and_from, and_left, and_right}
use Rattle.steps.specs.Meaning.{Str, Transitions, Independence}
use Rattle.steps.specs.declared.fault.MaskFault.{MaskFault}
use Rattle.steps.specs.Answers.{next_answer}
use Rattle.joins.specs.Exchange.{Pair, exchange_answer}
use Rattle.bench.specs.declared.fault.BenchFault.{BenchFault}
use Rattle.bench.specs.declared.fault.BenchFault.TheVariants.{System, NoSuchStep, Dependent}
use Rattle.bench.specs.declared.sheet.Standing.TheVariants.{Open}
use Rattle.bench.specs.Page.{Page}
use Rattle.bench.specs.Replay.{replayed, ended}
use Rattle.bench.specs.Calls.{from_system}
use Rattle.bench.specs.Swap.{with_neighbours, exchanged_on, swapped}
use Rattle.bench.proofs.Calling.{goes_on, then_ok, then_err}

module _ (t : Transitions) (i : Independence) (p : Page) (n : ℕ) (z : Str) (end : Ok z ≡ ended t Open p) where
  pub swapped_nowhere : (n ≡ 0) ⊎ ((n ≡ 0 → ⊥) × (p.len ≤ n)) → swapped t i n p ≡ Err (NoSuchStep n)
  swapped_nowhere (inl none) = goes_on t Open p _ z end ∙ cond-false (ltb 0 n && ltb n p.len) _ _ (and_left (ltb 0 n) (ltb n p.len) (le-ltb 0 n (omega arith)))
  swapped_nowhere (inr (some, past)) = goes_on t Open p _ z end ∙ cond-false (ltb 0 n && ltb n p.len) _ _ (and_right (ltb 0 n) (ltb n p.len) (le-ltb n p.len past))

  module _ (above : 0 < n) (below : n < p.len) where
    told : Result (Option Pair) MaskFault
    told = exchange_answer i (get_or p.rows (n - 1) []) (get_or p.rows n [])

    inside : (r : Result (Option Pair) MaskFault) → r ≡ exchange_answer i (get_or p.rows (n - 1) []) (get_or p.rows n []) → swapped t i n p ≡ exchanged_on t n p r
    inside r e =
        goes_on t Open p _ z end
        ∙ cond-true (ltb 0 n && ltb n p.len) _ _ (and_from (ltb 0 n) (ltb n p.len) (lt-ltb 0 n above) (lt-ltb n p.len below))
        ∙ ap (exchanged_on t n p) (sym e)

    pub swapped_refused : (f : MaskFault) → Err f ≡ exchange_answer i (get_or p.rows (n - 1) []) (get_or p.rows n []) → swapped t i n p ≡ Err (System f)
    swapped_refused f e = inside (Err f) e

    pub swapped_dependent : Ok None ≡ exchange_answer i (get_or p.rows (n - 1) []) (get_or p.rows n []) → swapped t i n p ≡ Err (Dependent n)
    swapped_dependent e = inside (Ok None) e

    module _ (x : Pair) (e : Ok (Some x) ≡ exchange_answer i (get_or p.rows (n - 1) []) (get_or p.rows n [])) where
      pub swapped_stopped : (f : BenchFault) → Err f ≡ replayed t p.start (take (n - 1) p.rows) → swapped t i n p ≡ Err f
      swapped_stopped f r = inside (Ok (Some x)) e ∙ then_err _ _ f r

      pub swapped_too_long : (a : Str) (f : MaskFault) → Ok a ≡ replayed t p.start (take (n - 1) p.rows) → Err f ≡ next_answer t a x.first 256 → swapped t i n p ≡ Err (System f)
      swapped_too_long a f r m = inside (Ok (Some x)) e ∙ then_ok _ _ a r ∙ then_err _ _ (System f) (ap from_system m)

      pub swapped_done : (a b : Str) → Ok a ≡ replayed t p.start (take (n - 1) p.rows) → Ok b ≡ next_answer t a x.first 256 → swapped t i n p ≡ Ok (record { answer = []; page = with_neighbours n x p })
      swapped_done a b r m = inside (Ok (Some x)) e ∙ then_ok _ _ a r ∙ then_ok _ _ b (ap from_system m)
