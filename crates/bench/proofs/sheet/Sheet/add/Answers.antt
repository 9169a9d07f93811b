use Rattle.std.proofs.Common.{◌≡◌, ℕ, ◌+◌, leb, List, length, set, Ok, Err, sym, refl, ap, ◌∙◌}
use Rattle.std.proofs.lemmas.Result.{err_from_is_err_and}
use Rattle.std.proofs.lemmas.Bool.{cond-true, false≢true}
use Rattle.byte_strings.specs.Buffer.{count, buffer_after}
use Rattle.steps.proofs.Answered.{counted, not_counted}
use Rattle.steps.specs.Meaning.{Str}
use Rattle.bench.specs.declared.sheet.Standing.TheVariants.{Open}
use Rattle.bench.specs.Page.{Page, page_of}
use Rattle.bench.specs.Calls.{added, answered, after}
use Rattle.bench.proofs.Calling.{stopped, added_full, added_refused, added_last, step_held}
use Rattle.bench.proofs.sheet.Sheet.add.Goals as goal

longer : ℕ → Str → List Str → Page
longer n s rows = record { standing = Open; len = n + 1; start = s; rows = rows }

pub returns-in_err-end : goal.returns-in_err-end
returns-in_err-end g c =
    let p = page_of c.args.self.now in
    let q = err_from_is_err_and c.from_residual.result c.from_residual.ensures.1 in
    let e : added (g.S.StepSystem.transitions c.args.system.now) c.args.step.now (length c.args.out.now) p ≡ Err c.in_err-end.field-0.0 = stopped (g.S.StepSystem.transitions c.args.system.now) Open p _ _ c.in_err-end.ensures in
    record { answer = q.1 ∙ ap Err q.2 ∙ sym (ap (λ o. count (answered o)) e); buffer = sym (ap (λ o. buffer_after (answered o) c.args.out.now) e); page = sym (ap (λ o. after o p) e); untouched = λ _. refl }

pub returns-then-len-ge32 : goal.returns-then-len-ge32
returns-then-len-ge32 g c =
    let p = page_of c.args.self.now in
    let e = added_full (g.S.StepSystem.transitions c.args.system.now) p c.args.step.now (length c.args.out.now) c.in_ok-end.end c.in_ok-end.ensures c.if-len-ge32.true in
    record { answer = sym (ap (λ o. count (answered o)) e); buffer = sym (ap (λ o. buffer_after (answered o) c.args.out.now) e); page = sym (ap (λ o. after o p) e); untouched = λ _. refl }

pub returns-in_err-n : goal.returns-in_err-n
returns-in_err-n g c =
    let p = page_of c.args.self.now in
    let f = c.in_err-n.field-0.0 in
    let q = err_from_is_err_and c.from_residual-in_err-n.result c.from_residual-in_err-n.ensures.1 in
    let r = not_counted _ f (rw c.items.ensures.value at c.in_err-n.ensures.answer) in
    let b = rw c.items.ensures.value at c.in_err-n.ensures.buffer in
    let e = added_refused (g.S.StepSystem.transitions c.args.system.now) p c.args.step.now (length c.args.out.now) c.in_ok-end.end c.in_ok-end.ensures f c.if-len-ge32.false r in
    record { answer = q.1 ∙ ap Err q.2 ∙ sym (ap (λ o. count (answered o)) e); buffer = b ∙ ap (λ o. buffer_after o c.args.out.now) r ∙ sym (ap (λ o. buffer_after (answered o) c.args.out.now) e); page = sym (ap (λ o. after o p) e); untouched = λ _. refl }

pub unreachable-requires : goal.unreachable-requires
unreachable-requires g c =
    let w = counted _ c.in_ok-n.n (rw c.items.ensures.value at c.in_ok-n.ensures.answer) in
    step_held (g.met.S.StepSystem.lawful c.args.system.now) c.in_ok-end.end c.args.step.now w.0 (length c.args.out.now) w.1 c.if-not-put.ensures.answer

pub returns : goal.returns
unfolding longer
returns g c =
    let p = page_of c.args.self.now in
    let w = counted _ c.in_ok-n.n (rw c.items.ensures.value at c.in_ok-n.ensures.answer) in
    let b = rw c.items.ensures.value at c.in_ok-n.ensures.buffer in
    let e = added_last (g.S.StepSystem.transitions c.args.system.now) p c.args.step.now (length c.args.out.now) c.in_ok-end.end c.in_ok-end.ensures w.0 c.if-len-ge32.false w.1 in
    record { answer = ap Ok w.2 ∙ sym (ap (λ o. count (answered o)) e); buffer = b ∙ ap (λ o. buffer_after o c.args.out.now) w.1 ∙ sym (ap (λ o. buffer_after (answered o) c.args.out.now) e); page = ap (λ r. longer p.len p.start r) (ap (set c.args.self.now.rows p.len) (c.put.ensures.items ∙ cond-true (leb (length c.args.step.now) 64) c.args.step.now _ (sym c.if-not-put.ensures.answer))) ∙ sym (ap (λ o. after o p) e); untouched = λ h. absurd (false≢true h) }
