use Rattle.std.proofs.Common.{◌≡◌, ◌<◌, length, Ok, Err, sym, refl, ap, ◌∙◌, arith}
use Rattle.std.proofs.lemmas.Result.{err_from_is_err_and}
use Rattle.std.proofs.lemmas.Bool.{false≢true}
use Rattle.byte_strings.specs.Buffer.{count, buffer_after}
use Rattle.steps.proofs.Answered.{counted, not_counted}
use Rattle.bench.specs.declared.sheet.Standing.TheVariants.{Open}
use Rattle.bench.specs.Page.{page_of}
use Rattle.bench.specs.Calls.{withdrawn, answered, after}
use Rattle.bench.proofs.Calling.{stopped, withdrawn_none, withdrawn_stopped, withdrawn_refused, withdrawn_last}
use Rattle.bench.proofs.sheet.Sheet.withdraw.Goals as goal

pub returns-in_err-end : goal.returns-in_err-end
returns-in_err-end g c =
    let p = page_of c.args.self.now in
    let q = err_from_is_err_and c.from_residual.result c.from_residual.ensures.1 in
    let e : withdrawn (g.S.StepSystem.transitions c.args.system.now) (length c.args.out.now) p ≡ Err c.in_err-end.field-0.0 = stopped (g.S.StepSystem.transitions c.args.system.now) Open p _ _ c.in_err-end.ensures in
    record { answer = q.1 ∙ ap Err q.2 ∙ sym (ap (λ o. count (answered o)) e); buffer = sym (ap (λ o. buffer_after (answered o) c.args.out.now) e); page = sym (ap (λ o. after o p) e); untouched = λ _. refl }

pub returns-then-len-eq0 : goal.returns-then-len-eq0
returns-then-len-eq0 g c =
    let p = page_of c.args.self.now in
    let e = withdrawn_none (g.S.StepSystem.transitions c.args.system.now) p (length c.args.out.now) c.in_ok-end.field-0 c.in_ok-end.ensures c.if-len-eq0.true in
    record { answer = sym (ap (λ o. count (answered o)) e); buffer = sym (ap (λ o. buffer_after (answered o) c.args.out.now) e); page = sym (ap (λ o. after o p) e); untouched = λ _. refl }

pub returns-in_err-rest : goal.returns-in_err-rest
returns-in_err-rest g c =
    let p = page_of c.args.self.now in
    let some : 0 < p.len = omega arith in
    let q = err_from_is_err_and c.from_residual-in_err-rest.result c.from_residual-in_err-rest.ensures.1 in
    let e = withdrawn_stopped (g.S.StepSystem.transitions c.args.system.now) p (length c.args.out.now) c.in_ok-end.field-0 c.in_ok-end.ensures c.in_err-rest.field-0.0 some c.in_err-rest.ensures in
    record { answer = q.1 ∙ ap Err q.2 ∙ sym (ap (λ o. count (answered o)) e); buffer = sym (ap (λ o. buffer_after (answered o) c.args.out.now) e); page = sym (ap (λ o. after o p) e); untouched = λ _. refl }

pub returns-in_err-n : goal.returns-in_err-n
returns-in_err-n g c =
    let p = page_of c.args.self.now in
    let some : 0 < p.len = omega arith in
    let f = c.in_err-n.field-0.0 in
    let q = err_from_is_err_and c.from_residual-in_err-n.result c.from_residual-in_err-n.ensures.1 in
    let r = not_counted _ f c.in_err-n.ensures.answer in
    let e = withdrawn_refused (g.S.StepSystem.transitions c.args.system.now) p (length c.args.out.now) c.in_ok-end.field-0 c.in_ok-end.ensures c.in_ok-rest.rest f some c.in_ok-rest.ensures r in
    record { answer = q.1 ∙ ap Err q.2 ∙ sym (ap (λ o. count (answered o)) e); buffer = c.in_err-n.ensures.buffer ∙ ap (λ o. buffer_after o c.args.out.now) r ∙ sym (ap (λ o. buffer_after (answered o) c.args.out.now) e); page = sym (ap (λ o. after o p) e); untouched = λ _. refl }

pub returns : goal.returns
returns g c =
    let p = page_of c.args.self.now in
    let some : 0 < p.len = omega arith in
    let w = counted _ c.in_ok-n.n c.in_ok-n.ensures.answer in
    let e = withdrawn_last (g.S.StepSystem.transitions c.args.system.now) p (length c.args.out.now) c.in_ok-end.field-0 c.in_ok-end.ensures c.in_ok-rest.rest w.0 some c.in_ok-rest.ensures w.1 in
    record { answer = ap Ok w.2 ∙ sym (ap (λ o. count (answered o)) e); buffer = c.in_ok-n.ensures.buffer ∙ ap (λ o. buffer_after o c.args.out.now) w.1 ∙ sym (ap (λ o. buffer_after (answered o) c.args.out.now) e); page = sym (ap (λ o. after o p) e); untouched = λ h. absurd (false≢true h) }
