-- What is promised of plain calls among all, as it is said of them alone.
use Rattle.std.proofs.Common.{◌≡◌, List, [], ◌∷◌, map, length, sym, refl, ap, ◌∙◌, subst, ap₂}
use Rattle.steps.specs.declared.fault.MaskFault.TheVariants.{Masked, Inner}
use Rattle.steps.specs.declared.fault.SystemFault.TheVariants.{Impossible, StateTooLong}
use Rattle.steps.specs.Meaning.{Transitions, Independence}
use Rattle.steps.specs.Answers.{told_length}
use Rattle.bench.specs.declared.fault.BenchFault.{BenchFault}
use Rattle.bench.specs.declared.fault.BenchFault.TheVariants.{NoSheet, WrongStanding, System, Full, NoSuchStep}
use Rattle.bench.specs.Page.{Page}
use Rattle.bench.specs.Table.{pages_after}
use Rattle.history.specs.History as all
use Rattle.history.specs.History.{Sheet}
use Rattle.history.specs.History.AnswerView.{refused as any_refused}
use Rattle.history.specs.History.Reason.{no_sheet as any_no_sheet, nothing_to_add_to as any_nothing_to_add_to, nothing_to_withdraw as any_nothing_to_withdraw, no_state as any_no_state, no_step as any_no_step, full as any_full, impossible as any_impossible, too_long as any_too_long, no_steps as any_no_steps}
use Rattle.history.specs.History.Happens.{refuses as any_refuses, opens as any_opens, adds as any_adds, withdraws as any_withdraws}
use Rattle.history.specs.History.History.{ends_here as any_ends_here, goes_on as any_goes_on}
use Rattle.history.specs.Told.{outcome, answer_told, pages_then, pages_told}
use Rattle.history.specs.Plain.{CallView, AnswerView, Reason, Happens, Moment, Kept, History, PlainPromised, PlainTold, any_call, any_answer}
use Rattle.history.specs.Plain.CallView.{open_sheet, add, withdraw}
use Rattle.history.specs.Plain.AnswerView.{opened, ends, refused}
use Rattle.history.specs.Plain.Reason.{no_sheet, nothing_to_add_to, nothing_to_withdraw, no_state, no_step, full, impossible, too_long, no_steps}
use Rattle.history.specs.Plain.Happens.{refuses, opens, adds, withdraws}
use Rattle.history.specs.Plain.History.{ends_here, goes_on}

module _ (t : Transitions) (i : Independence) where
  -- a reason among all is one here, and one here is one among all, with a refusal that tells it
  plain_reason : (ls : List Sheet) (c : CallView) (f : BenchFault) → all.Reason t i ls (any_call c) f → Reason t ls c
  plain_reason ls (open_sheet s a) f (any_no_sheet c past) = no_sheet (open_sheet s a) past
  plain_reason ls (open_sheet s a) f (any_no_state _ _ _ n) = no_state s a n
  plain_reason ls (add s x) f (any_no_sheet c past) = no_sheet (add s x) past
  plain_reason ls (add s x) f (any_nothing_to_add_to _ _ h) = nothing_to_add_to s x h
  plain_reason ls (add s x) f (any_no_step _ _ _ n) = no_step s x n
  plain_reason ls (add s x) f (any_full _ _ a xs h many) = full s x a xs h many
  plain_reason ls (add s x) f (any_impossible _ _ a xs b place h q n) = impossible s x a xs b place h q n
  plain_reason ls (add s x) f (any_too_long _ _ a xs b c n h q leads long told) = too_long s x a xs b c h q leads long
  plain_reason ls (withdraw s) f (any_no_sheet c past) = no_sheet (withdraw s) past
  plain_reason ls (withdraw s) f (any_nothing_to_withdraw _ h) = nothing_to_withdraw s h
  plain_reason ls (withdraw s) f (any_no_steps _ a h) = no_steps s a h

  any_reason : (ls : List Sheet) (c : CallView) → Reason t ls c → (f : BenchFault) × all.Reason t i ls (any_call c) f
  any_reason ls (open_sheet s a) (no_sheet _ past) = (NoSheet 1, any_no_sheet (any_call (open_sheet s a)) past)
  any_reason ls (open_sheet s a) (no_state _ _ n) = (System Masked, any_no_state s a Masked n)
  any_reason ls (add s x) (no_sheet _ past) = (NoSheet 1, any_no_sheet (any_call (add s x)) past)
  any_reason ls (add s x) (nothing_to_add_to _ _ h) = (WrongStanding 1, any_nothing_to_add_to s x h)
  any_reason ls (add s x) (no_step _ _ n) = (System Masked, any_no_step s x Masked n)
  any_reason ls (add s x) (full _ _ a xs h many) = (Full, any_full s x a xs h many)
  any_reason ls (add s x) (impossible _ _ a xs b place h q n) = (System (Inner (Impossible place)), any_impossible s x a xs b place h q n)
  any_reason ls (add s x) (too_long _ _ a xs b c h q leads long) = (System (Inner (StateTooLong (told_length (length c)))), any_too_long s x a xs b c (told_length (length c)) h q leads long refl)
  any_reason ls (withdraw s) (no_sheet _ past) = (NoSheet 1, any_no_sheet (any_call (withdraw s)) past)
  any_reason ls (withdraw s) (nothing_to_withdraw _ h) = (WrongStanding 1, any_nothing_to_withdraw s h)
  any_reason ls (withdraw s) (no_steps _ a h) = (NoSuchStep 0, any_no_steps s a h)

  plain_happens : (before after : List Sheet) (c : CallView) (r : all.AnswerView) → all.Happens t i before after (any_call c) r → (v : AnswerView) × (any_answer v ≡ r) × Happens t before after c v
  plain_happens before after (open_sheet s a) r (any_refuses _ f same why) = (refused f, refl, refuses (open_sheet s a) f same (plain_reason before (open_sheet s a) f why))
  plain_happens before after (open_sheet s a) r (any_opens _ _ q) = (opened, refl, opens s a q)
  plain_happens before after (add s x) r (any_refuses _ f same why) = (refused f, refl, refuses (add s x) f same (plain_reason before (add s x) f why))
  plain_happens before after (add s x) r (any_adds _ _ a xs b h q run) = (ends b, refl, adds s x a xs b h q run)
  plain_happens before after (withdraw s) r (any_refuses _ f same why) = (refused f, refl, refuses (withdraw s) f same (plain_reason before (withdraw s) f why))
  plain_happens before after (withdraw s) r (any_withdraws _ a xs x b h q run) = (ends b, refl, withdraws s a xs x b h q run)

  plain_refused : (v : AnswerView) (g : BenchFault) → any_answer v ≡ any_refused g → (f : BenchFault) × (v ≡ refused f)
  plain_refused opened g e = cc
  plain_refused (ends b) g e = cc
  plain_refused (refused f) g e = (f, refl)

  kept : (m : all.Moment) (c : CallView) → m.call ≡ any_call c → all.Kept t i m → (v : AnswerView) × (any_answer v ≡ m.answer) × Kept t (record { call = c; answer = v; before = m.before; after = m.after })
  kept m c e k =
      let h = plain_happens m.before m.after c m.answer (subst (λ d. all.Happens t i m.before m.after d m.answer) e k.happens) in (
        h.0,
        h.1,
        record {
          happens = h.2;
          refused_where_due = λ why.
              let r = any_reason m.before c why in
              let g = k.refused_where_due r.0 (subst (λ d. all.Reason t i m.before d r.0) (sym e) r.1) in
              plain_refused h.0 g.0 (h.1 ∙ g.1);
          four_before = k.four_before;
          four_after = k.four_after;
          runs_before = k.runs_before;
          runs_after = k.runs_after;
        },
      )

  histories : (cs : List CallView) {first : List Sheet} {ms : List all.Moment} {last : List Sheet} → all.History t i first ms last → map (λ m. m.call) ms ≡ map any_call cs → (ns : List Moment) × History t first ns last × (map (λ m. m.call) ns ≡ cs) × (map any_answer (map (λ m. m.answer) ns) ≡ map (λ m. m.answer) ms)
  histories [] any_ends_here e = ([], ends_here, refl, refl)
  histories (c ∷ cs) any_ends_here e = cc
  histories [] (any_goes_on k rest) e = cc
  histories (c ∷ cs) (any_goes_on {m = m} {ms = ms} k rest) e =
      let head : m.call ≡ any_call c = cc in
      let tail : map (λ m. m.call) ms ≡ map any_call cs = cc in
      let one = kept m c head k in
      let more = histories cs rest tail in
      let n : Moment = record { call = c; answer = one.0; before = m.before; after = m.after } in
      (n ∷ more.0, goes_on {m = n} one.2 more.1, ap (λ l. c ∷ l) more.2, ap₂ (λ v l. v ∷ l) one.1 more.3)

pub plain_promised : PlainPromised
plain_promised t i cs rs ls p =
    let h = histories t i cs p.history p.of_the_calls in
    (map (λ m. m.answer) h.0, h.3 ∙ p.with_the_answers, record { moments = h.0; history = h.1; of_the_calls = h.2; with_the_answers = refl })

plain_outcome : (t : Transitions) (i j : Independence) (ps : List Page) (c : CallView) → outcome t i ps (any_call c) ≡ outcome t j ps (any_call c)
plain_outcome t i j ps (open_sheet s a) = refl
plain_outcome t i j ps (add s x) = refl
plain_outcome t i j ps (withdraw s) = refl

pub plain_told : PlainTold
plain_told t i j ps [] = (refl, refl)
plain_told t i j ps (c ∷ cs) =
    let same = plain_outcome t i j ps c in
    let r = plain_told t i j (pages_then t j ps (any_call c)) cs in
    (rw same (ap (λ l. answer_told t j ps (any_call c) ∷ l) r.0), ap (λ o. pages_told t i (pages_after o ps (all.sheet_named (any_call c))) (map any_call cs)) same ∙ r.1)
