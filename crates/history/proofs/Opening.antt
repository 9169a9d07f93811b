-- An opening on one page. Assumes the laws of a step system.
use Rattle.std.proofs.Common.{◌≡◌, ℕ, ◌<◌, List, Ok, Err, Result, sym, refl, ◌∙◌, arith}
use Rattle.steps.specs.declared.fault.MaskFault.{MaskFault}
use Rattle.steps.specs.Meaning.{Str, Transitions, Independence}
use Rattle.steps.specs.Laws.{Laws}
use Rattle.steps.specs.Answers.{state_answer}
use Rattle.steps.proofs.Answered.{ok_not_err, state_ok}
use Rattle.bench.specs.declared.fault.BenchFault.{BenchFault}
use Rattle.bench.specs.declared.fault.BenchFault.TheVariants.{System}
use Rattle.bench.specs.Page.{Page}
use Rattle.bench.specs.Calls.{opened}
use Rattle.bench.proofs.Calling.{opened_refused, opened_at}
use Rattle.history.specs.History.{Sheet, Reason}
use Rattle.history.specs.History.CallView.{open_sheet}
use Rattle.history.specs.History.Reason.{no_sheet, no_state}
use Rattle.history.specs.History.Happens.{opens}
use Rattle.history.proofs.Replays.{replayed_none, state_told_ok}
use Rattle.history.proofs.Sound.{Sound, not_released}
use Rattle.history.proofs.Verdict.{Verdict}
use Rattle.history.proofs.Verdict.Verdict.{turned_down, carried_out}

module _ {t : Transitions} {i : Independence} (laws : Laws t i) (ls : List Sheet) (s : ℕ) (p : Page) (within : s < 4) (sound : Sound t p) where
  no_reason : (a : Str) → state_answer t a ≡ Ok tt → (f : BenchFault) → Reason t i ls (open_sheet s a) f → ⊥
  no_reason a e f (no_sheet c past) = omega (arith, within, past)
  no_reason a e f (no_state _ _ _ n) = n ((laws.state_refusals a).0 (state_ok t a e))

  pub opening : (a : Str) → Verdict t i ls (open_sheet s a) (opened t a p)
  opening a = go (state_answer t a) refl
    where
      go : (r : Result (Unit {0}) MaskFault) → state_answer t a ≡ r → Verdict t i ls (open_sheet s a) (opened t a p)
      go (Ok u) e =
          carried_out _ (opened_at t p a (not_released sound) (sym e))
          within (no_reason a e) (record { long = sound.long; few = omega arith; stands = (a, replayed_none t a e) }) (λ after b. opens s a b)
      go (Err f) e =
          turned_down (System f) (opened_refused t p a (not_released sound) f (sym e))
          (no_state s a f (λ w. ok_not_err tt f (sym (state_told_ok t a ((laws.state_refusals a).1 w)) ∙ e)))
