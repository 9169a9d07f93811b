-- A withdrawal on one page. Assumes the laws of a step system.
use Rattle.std.proofs.Common.{◌≡◌, ℕ, ◌+◌, ◌-◌, ◌<◌, ◌≤◌, ◌⊎◌, List, [], ◌∷◌, ◌++◌, length, get_or, take, Ok, sym, ap, ◌∙◌, subst, inl, inr, arith}
use Rattle.std.proofs.lemmas.List.{take_more, length-append}
use Rattle.std.proofs.lemmas.Bool.{cases_lt}
use Rattle.steps.specs.Meaning.{Str, Transitions, Independence}
use Rattle.steps.specs.Laws.{Laws}
use Rattle.bench.specs.declared.fault.BenchFault.{BenchFault}
use Rattle.bench.specs.declared.fault.BenchFault.TheVariants.{WrongStanding, NoSuchStep}
use Rattle.bench.specs.declared.sheet.Standing.TheVariants.{Blank, Open}
use Rattle.bench.specs.Page.{Page, steps_of}
use Rattle.bench.specs.Replay.{end_answer, replayed}
use Rattle.bench.specs.Calls.{withdrawn}
use Rattle.bench.proofs.Calling.{ends_standing, not_open, withdrawn_none, withdrawn_last}
use Rattle.history.specs.History.{Sheet, sheet_at, Reason}
use Rattle.history.specs.History.Sheet.{holds}
use Rattle.history.specs.History.CallView.{withdraw}
use Rattle.history.specs.History.Reason.{no_sheet, nothing_to_withdraw, no_steps}
use Rattle.history.specs.History.Happens.{withdraws}
use Rattle.history.specs.Views.{page_view}
use Rattle.history.proofs.Replays.{replayed_run, replayed_unsnoc, replayed_fits}
use Rattle.history.proofs.Sound.{Sound, by_standing, blank_not_open, view_blank, view_open}
use Rattle.history.proofs.Verdict.{Verdict}
use Rattle.history.proofs.Verdict.Verdict.{turned_down, carried_out}

module _ {t : Transitions} {i : Independence} (laws : Laws t i) (ls : List Sheet) (s : ℕ) (p : Page) (within : s < 4) (view : sheet_at ls s ≡ page_view p) (sound : Sound t p) where
  on_blank : p.standing ≡ Blank → Verdict t i ls (withdraw s) (withdrawn t 256 p)
  on_blank e =
      turned_down (WrongStanding 1) (not_open p _ (blank_not_open p e))
      (nothing_to_withdraw s (view ∙ view_blank p e))

  module _ (e : p.standing ≡ Open) (z : Str) (r : end_answer t p ≡ Ok z) where
    held : sheet_at ls s ≡ holds p.start (steps_of p)
    held = view ∙ view_open p e

    on_none : p.len ≡ 0 → Verdict t i ls (withdraw s) (withdrawn t 256 p)
    on_none none =
        turned_down (NoSuchStep 0) (withdrawn_none t p 256 z (ends_standing t Open p z e (sym r)) none)
        (no_steps s p.start (held ∙ ap (λ n. holds p.start (take n p.rows)) none))

    last : 0 < p.len → steps_of p ≡ take (p.len - 1) p.rows ++ get_or p.rows (p.len - 1) [] ∷ []
    last some =
        let back : p.len ≡ p.len - 1 + 1 = omega arith in
        ap (λ n. take n p.rows) back ∙ take_more p.rows (p.len - 1) [] (omega (arith, sound.long, sound.few))

    no_reason : 0 < p.len → (f : BenchFault) → Reason t i ls (withdraw s) f → ⊥
    no_reason some f (no_sheet c past) = omega (arith, within, past)
    no_reason some f (nothing_to_withdraw s h) = cc (h, held)
    no_reason some f (no_steps s a h) =
        let steps : [] ≡ steps_of p = cc (h, held) in
        omega (arith, ap length (steps ∙ last some), length-append (take (p.len - 1) p.rows) (get_or p.rows (p.len - 1) [] ∷ []))

    on_some : 0 < p.len → Verdict t i ls (withdraw s) (withdrawn t 256 p)
    on_some some =
        let xs = take (p.len - 1) p.rows in
        let x = get_or p.rows (p.len - 1) [] in
        let u = replayed_unsnoc t p.start xs x z (subst (λ ys. replayed t p.start ys ≡ Ok z) (last some) r) in
        carried_out _ (withdrawn_last t p 256 z (ends_standing t Open p z e (sym r)) u.0 u.0 some (sym u.1) (replayed_fits laws p.start xs u.0 u.1))
        within (no_reason some)
        (record { long = sound.long; few = omega (arith, sound.few); stands = (u.0, u.1) })
        (λ after q. withdraws s p.start xs x u.0 (held ∙ ap (holds p.start) (last some)) q (replayed_run laws p.start xs u.0 u.1).0)

    on_open : (0 < p.len) ⊎ (p.len ≤ 0) → Verdict t i ls (withdraw s) (withdrawn t 256 p)
    on_open (inl some) = on_some some
    on_open (inr none) = on_none (omega arith)

  pub withdrawing : Verdict t i ls (withdraw s) (withdrawn t 256 p)
  withdrawing = by_standing sound on_blank (λ e b r. on_open e b r (cases_lt 0 p.len))
