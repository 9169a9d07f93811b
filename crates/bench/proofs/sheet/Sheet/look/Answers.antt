use Rattle.std.proofs.Common.{◌<◌, ◌≤◌, length, take, Ok, Err, sym, refl, ap, ◌∙◌, arith}
use Rattle.std.proofs.lemmas.Result.{err_from_is_err_and}
use Rattle.byte_strings.specs.Buffer.{count, buffer_after}
use Rattle.steps.proofs.Answered.{counted, not_counted}
use Rattle.bench.specs.declared.fault.BenchFault.TheVariants.{NoSuchStep}
use Rattle.bench.specs.Page.{page_of}
use Rattle.bench.specs.Replay.{replayed}
use Rattle.bench.specs.Calls.{answered}
use Rattle.bench.proofs.Looking.{looked_blank, looked_stopped, looked_past, looked_lost, looked_refused, looked_back, same_sheet}
use Rattle.bench.proofs.sheet.Sheet.look.Goals as goal

pub returns-in-Blank-clause-answer : goal.returns-in-Blank-clause-answer
returns-in-Blank-clause-answer g c =
    sym (ap (λ o. count (answered o)) (looked_blank (g.S.StepSystem.transitions c.args.system.now) c.args.steps (length c.args.out.now) (page_of c.args.self.now) c.in-Blank.is))

pub returns-in_err-end_of : goal.returns-in_err-end_of
returns-in_err-end_of g c =
    let q = err_from_is_err_and c.from_residual.result c.from_residual.ensures.1 in
    let e = looked_stopped (g.S.StepSystem.transitions c.args.system.now) c.args.steps (length c.args.out.now) (page_of c.args.self.now) c.in_default.not-Blank c.in_err-end_of.field-0.0 c.in_err-end_of.ensures in
    record { answer = q.1 ∙ ap Err q.2 ∙ sym (ap (λ o. count (answered o)) e); buffer = sym (ap (λ o. buffer_after (answered o) c.args.out.now) e); unchanged = refl }

pub returns-then-first-head : goal.returns-then-first-head
returns-then-first-head g c =
    let past : c.args.self.now.head.len < c.args.steps = omega arith in
    let e = looked_past (g.S.StepSystem.transitions c.args.system.now) c.args.steps (length c.args.out.now) (page_of c.args.self.now) c.in_default.not-Blank c.in_ok-end_of.field-0 c.in_ok-end_of.ensures past in
    record { answer = ap (λ k. Err (NoSuchStep k)) c.from.ensures ∙ sym (ap (λ o. count (answered o)) e); buffer = sym (ap (λ o. buffer_after (answered o) c.args.out.now) e); unchanged = refl }

pub returns-in_err-state : goal.returns-in_err-state
returns-in_err-state g c =
    let t = g.S.StepSystem.transitions c.args.system.now in
    let p = page_of c.args.self.now in
    let there : c.args.steps ≤ p.len = omega arith in
    let q = err_from_is_err_and c.from_residual-in_err-state.result c.from_residual-in_err-state.ensures.1 in
    let first = c.in_err-state.ensures ∙ ap (λ k. replayed t p.start (take k p.rows)) c.from-first.ensures in
    let e = looked_lost t c.args.steps (length c.args.out.now) p c.in_default.not-Blank c.in_ok-end_of.field-0 c.in_ok-end_of.ensures there c.in_err-state.field-0.0 first in
    record { answer = q.1 ∙ ap Err q.2 ∙ sym (ap (λ o. count (answered o)) e); buffer = sym (ap (λ o. buffer_after (answered o) c.args.out.now) e); unchanged = same_sheet c.args.self.now _ _ c.drop-shortened.ensures }

pub returns-in_err-answer : goal.returns-in_err-answer
returns-in_err-answer g c =
    let t = g.S.StepSystem.transitions c.args.system.now in
    let p = page_of c.args.self.now in
    let there : c.args.steps ≤ p.len = omega arith in
    let f = c.in_err-answer.field-0.0 in
    let q = err_from_is_err_and c.from_residual-in_err-answer.result c.from_residual-in_err-answer.ensures.1 in
    let first = c.in_ok-state.ensures ∙ ap (λ k. replayed t p.start (take k p.rows)) c.from-first.ensures in
    let r = not_counted _ f c.in_err-answer.ensures.answer in
    let e = looked_refused t c.args.steps (length c.args.out.now) p c.in_default.not-Blank c.in_ok-end_of.field-0 c.in_ok-end_of.ensures there c.in_ok-state.state first f r in
    record { answer = q.1 ∙ ap Err q.2 ∙ sym (ap (λ o. count (answered o)) e); buffer = c.in_err-answer.ensures.buffer ∙ ap (λ o. buffer_after o c.args.out.now) r ∙ sym (ap (λ o. buffer_after (answered o) c.args.out.now) e); unchanged = same_sheet c.args.self.now _ _ c.drop-shortened-in_err-answer.ensures }

pub returns : goal.returns
returns g c =
    let t = g.S.StepSystem.transitions c.args.system.now in
    let p = page_of c.args.self.now in
    let there : c.args.steps ≤ p.len = omega arith in
    let w = counted _ c.in_ok-answer.field-0 c.in_ok-answer.ensures.answer in
    let first = c.in_ok-state.ensures ∙ ap (λ k. replayed t p.start (take k p.rows)) c.from-first.ensures in
    let e = looked_back t c.args.steps (length c.args.out.now) p c.in_default.not-Blank c.in_ok-end_of.field-0 c.in_ok-end_of.ensures there c.in_ok-state.state first w.0 w.1 in
    record { answer = ap Ok w.2 ∙ sym (ap (λ o. count (answered o)) e); buffer = c.in_ok-answer.ensures.buffer ∙ ap (λ o. buffer_after o c.args.out.now) w.1 ∙ sym (ap (λ o. buffer_after (answered o) c.args.out.now) e); unchanged = same_sheet c.args.self.now _ _ c.drop-shortened-2.ensures }
