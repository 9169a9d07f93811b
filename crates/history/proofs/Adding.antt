-- An add on one page. Assumes the laws of a step system.
use Rattle.std.proofs.Common.{◌≡◌, ℕ, ◌+◌, ◌<◌, ◌≤◌, ◌⊎◌, List, [], ◌∷◌, ◌++◌, length, take, set, Ok, Err, Result, sym, refl, ap, ◌∙◌, subst, inl, inr, arith}
use Rattle.std.proofs.lemmas.List.{length-set, length-take, take_more_set}
use Rattle.std.proofs.lemmas.Bool.{cases_lt}
use Rattle.steps.specs.declared.fault.MaskFault.{MaskFault}
use Rattle.steps.specs.Meaning.{Str, Transitions, Independence}
use Rattle.steps.specs.Laws.{Laws}
use Rattle.steps.specs.Answers.{next_answer}
use Rattle.steps.proofs.Answered.{ok_not_err, next_ok}
use Rattle.runs.specs.Run.{Run}
use Rattle.runs.proofs.Runs.{run_end_unique}
use Rattle.bench.specs.declared.fault.BenchFault.{BenchFault}
use Rattle.bench.specs.declared.fault.BenchFault.TheVariants.{WrongStanding, System, Full}
use Rattle.bench.specs.declared.sheet.Standing.TheVariants.{Blank, Open}
use Rattle.bench.specs.Page.{Page, steps_of}
use Rattle.bench.specs.Replay.{end_answer, replayed}
use Rattle.bench.specs.Calls.{added}
use Rattle.bench.proofs.Calling.{ends_standing, not_open, added_full, added_refused, added_last}
use Rattle.history.specs.History.{Sheet, sheet_at, Becomes, Reason}
use Rattle.history.specs.History.Sheet.{holds}
use Rattle.history.specs.History.CallView.{add}
use Rattle.history.specs.History.Reason.{no_sheet, nothing_to_add_to, no_step, full, impossible, too_long}
use Rattle.history.specs.History.Happens.{adds}
use Rattle.history.specs.Views.{page_view}
use Rattle.history.proofs.Replays.{replayed_run, replayed_snoc}
use Rattle.history.proofs.Unable.{Unable, unable}
use Rattle.history.proofs.Unable.Unable.{no_step as not_a_step, impossible as not_possible, too_long as over_long}
use Rattle.history.proofs.Sound.{Sound, by_standing, blank_not_open, view_blank, view_open}
use Rattle.history.proofs.Verdict.{Verdict}
use Rattle.history.proofs.Verdict.Verdict.{turned_down, carried_out}

module _ {t : Transitions} {i : Independence} (laws : Laws t i) (ls : List Sheet) (s : ℕ) (p : Page) (within : s < 4) (view : sheet_at ls s ≡ page_view p) (sound : Sound t p) (x : Str) where
  on_blank : p.standing ≡ Blank → Verdict t i ls (add s x) (added t x 256 p)
  on_blank e =
      turned_down (WrongStanding 1) (not_open p _ (blank_not_open p e))
      (nothing_to_add_to s x (view ∙ view_blank p e))

  module _ (e : p.standing ≡ Open) (b : Str) (r : end_answer t p ≡ Ok b) where
    held : sheet_at ls s ≡ holds p.start (steps_of p)
    held = view ∙ view_open p e

    along : Run t p.start (steps_of p) b
    along = (replayed_run laws p.start (steps_of p) b r).0

    on_full : 32 ≤ p.len → Verdict t i ls (add s x) (added t x 256 p)
    on_full many =
        turned_down Full (added_full t p x 256 b (ends_standing t Open p b e (sym r)) many)
        (full s x p.start (steps_of p) held (omega (arith, length-take p.len p.rows, sound.long)))

    why : {f : MaskFault} → Unable t b x f → Reason t i ls (add s x) (System f)
    why (not_a_step f n) = no_step s x f n
    why (not_possible place n) = impossible s x p.start (steps_of p) b place held along n
    why (over_long c k n l told) = too_long s x p.start (steps_of p) b c k held along n l told

    not_followed : (f : MaskFault) → p.len < 32 → next_answer t b x 256 ≡ Err f → Verdict t i ls (add s x) (added t x 256 p)
    not_followed f lt n =
        turned_down (System f) (added_refused t p x 256 b (ends_standing t Open p b e (sym r)) f lt n)
        (why (unable laws b x (replayed_run laws p.start (steps_of p) b r).1 f n))

    grown : p.len < 32 → take (p.len + 1) (set p.rows p.len x) ≡ steps_of p ++ x ∷ []
    grown lt = take_more_set p.rows p.len x (omega (arith, sound.long))

    module _ (c : Str) (lt : p.len < 32) (n : next_answer t b x 256 ≡ Ok c) where
      same_run : (a : Str) (xs : List Str) (b' : Str) → sheet_at ls s ≡ holds a xs → Run t a xs b' → b' ≡ b
      same_run a xs b' h q =
          let start : a ≡ p.start = cc (h, held) in
          let steps : xs ≡ steps_of p = cc (h, held) in
          run_end_unique t (subst (λ ys. Run t p.start ys b') steps (subst (λ w. Run t w xs b') start q)) along

      no_reason : (f : BenchFault) → Reason t i ls (add s x) f → ⊥
      no_reason f (no_sheet c past) = omega (arith, within, past)
      no_reason f (nothing_to_add_to s x h) = cc (h, held)
      no_reason f (no_step s x _ w) = let f = next_ok t b x c 256 n in w ((laws.step_refusals x).0 (f.shaped, f.shown))
      no_reason f (full s x a xs h many) =
          let steps : xs ≡ steps_of p = cc (h, held) in
          omega (arith, ap length steps, length-take p.len p.rows, many, lt)
      no_reason f (impossible s x a xs b' place h q w) = ok_not_err c place (sym (next_ok t b x c 256 n).leads ∙ ap (λ v. t.next v x) (sym (same_run a xs b' h q)) ∙ w)
      no_reason f (too_long s x a xs b' c' k h q w long told) =
          let f = next_ok t b x c 256 n in
          let next : Ok c ≡ Ok c' = sym f.leads ∙ ap (λ v. t.next v x) (sym (same_run a xs b' h q)) ∙ w in
          let same : c ≡ c' = cc in
          omega (arith, ap length same, long, f.short)

    followed_by : (c : Str) → p.len < 32 → next_answer t b x 256 ≡ Ok c → Verdict t i ls (add s x) (added t x 256 p)
    followed_by c lt n =
        let more = replayed_snoc t p.start (steps_of p) b x c r n in
        carried_out _ (added_last t p x 256 b (ends_standing t Open p b e (sym r)) c lt n)
        within (no_reason c lt n)
        (record { long = length-set p.rows p.len x ∙ sound.long; few = omega arith; stands = (c, subst (λ xs. replayed t p.start xs ≡ Ok c) (sym (grown lt)) more) })
        (λ after q. adds s x p.start (steps_of p) c held (subst (λ xs. Becomes ls after s (holds p.start xs)) (grown lt) q) (replayed_run laws p.start (steps_of p ++ x ∷ []) c more).0)

    on_open : (p.len < 32) ⊎ (32 ≤ p.len) → (q : Result Str MaskFault) → next_answer t b x 256 ≡ q → Verdict t i ls (add s x) (added t x 256 p)
    on_open (inr many) q n = on_full many
    on_open (inl lt) (Err f) n = not_followed f lt n
    on_open (inl lt) (Ok c) n = followed_by c lt n

  pub adding : Verdict t i ls (add s x) (added t x 256 p)
  adding = by_standing sound on_blank (λ e b r. on_open e b r (cases_lt p.len 32) (next_answer t b x 256) refl)
