use Rattle.std.proofs.Common.{◌≡◌, length, is_ok, Ok, Err, sym, ap, ◌∙◌, arith}
use Rattle.std.proofs.lemmas.Result.{err_from_is_err_and, IfOk-from_err}
use Rattle.byte_strings.specs.Buffer.{count, buffer_after}
use Rattle.bench.specs.declared.fault.BenchFault.TheVariants.{TextTooLong}
use Rattle.bench.specs.declared.sheet.Standing.TheVariants.{Released}
use Rattle.bench.specs.Page.{page_of}
use Rattle.bench.specs.Calls.{answered}
use Rattle.bench.specs.Print.{printed}
use Rattle.bench.proofs.Calling.{stopped, stands}
use Rattle.bench.proofs.Printing.{text_is_long, printed_not, printed_text}
use Rattle.bench.proofs.sheet.Sheet.print.Goals as goal

pub returns-in_err-end : goal.returns-in_err-end
returns-in_err-end g c =
    let p = page_of c.args.self.now in
    let q = err_from_is_err_and c.from_residual.result c.from_residual.ensures.1 in
    let e : printed (g.S.StepSystem.transitions c.args.system.now) (length c.args.out.now) p ≡ Err c.in_err-end.field-0.0 = stopped (g.S.StepSystem.transitions c.args.system.now) Released p _ _ c.in_err-end.ensures in
    record { answer = q.1 ∙ ap Err q.2 ∙ sym (ap (λ o. count (answered o)) e); buffer = sym (ap (λ o. buffer_after (answered o) c.args.out.now) e); bound = IfOk-from_err c.from_residual.result _ c.from_residual.ensures.0 }

pub write_text-requires : goal.write_text-requires
write_text-requires g c = record { replays = sym (ap is_ok (stands (g.S.StepSystem.transitions c.args.system.now) Released (page_of c.args.self.now) c.in_ok-end.end c.in_ok-end.ensures).1); room = omega (arith, c.text_len-len.ensures.value) }

pub returns-then-len-out : goal.returns-then-len-out
returns-then-len-out g c =
    let p = page_of c.args.self.now in
    let t = g.S.StepSystem.transitions c.args.system.now in
    let l = c.text_len-len.ensures.value in
    let e = printed_not t p c.in_ok-end.end (length c.args.out.now) c.in_ok-end.ensures (omega (arith, l)) (omega (arith, l)) in
    record { answer = ap (λ n. Err (TextTooLong n)) l ∙ sym (ap (λ o. count (answered o)) e); buffer = sym (ap (λ o. buffer_after (answered o) c.args.out.now) e); bound = tt }

pub returns : goal.returns
returns g c =
    let p = page_of c.args.self.now in
    let t = g.S.StepSystem.transitions c.args.system.now in
    let a = c.in_ok-end.end in
    let l = c.text_len-len.ensures.value in
    let e = printed_text t p a (length c.args.out.now) c.in_ok-end.ensures (omega (arith, l)) in
    record { answer = ap Ok (l ∙ sym (text_is_long t p a)) ∙ sym (ap (λ o. count (answered o)) e); buffer = c.write_text.ensures ∙ sym (ap (λ o. buffer_after (answered o) c.args.out.now) e); bound = c.text_len-len.ensures.bound }
