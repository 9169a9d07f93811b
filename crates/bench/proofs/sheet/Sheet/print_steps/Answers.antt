use Rattle.std.proofs.Common.{◌≡◌, ◌+◌, [], length, get_or, take, sym, ap, ◌∙◌, arith}
use Rattle.std.proofs.lemmas.List.{get_or_default}
use Rattle.byte_strings.proofs.Over.{length_over}
use Rattle.steps.proofs.Answered.{ok_not_err}
use Rattle.bench.specs.Page.{page_of, steps_of}
use Rattle.bench.specs.Print.{step_lines}
use Rattle.bench.proofs.Printing.{lines_more, lines_within, length_step_lines, lines_next, label_is, all_shown}
use Rattle.bench.proofs.sheet.Sheet.print_steps.Goals as goal

pub unreachable-requires : goal.unreachable-requires
unreachable-requires g c =
    let p = page_of c.args.self.now in
    let t = g.S.StepSystem.transitions c.args.system.now in
    let i = c.loop-row.row-index in
    let at : c.items-step.result.now ≡ get_or (steps_of p) i [] = c.items-step.ensures.value ∙ c.row-item.is ∙ get_or_default (steps_of p) i c.row-item.result [] c.loop-row-test.true in
    ok_not_err _ c.in_default.field-0 (sym (rw at at c.in_default.ensures ∙ all_shown t p.start (steps_of p) c.requires.replays i c.loop-row-test.true))

pub loop-row-preserved : goal.loop-row-preserved
loop-row-preserved g c =
    let xs = steps_of (page_of c.args.self.now) in
    let t = g.S.StepSystem.transitions c.args.system.now in
    let i = c.loop-row.row-index in
    let x = c.items-step.result.now in
    let lt = c.loop-row-test.true in
    let at : x ≡ get_or xs i x = c.items-step.ensures.value ∙ c.row-item.is ∙ get_or_default xs i c.row-item.result x lt in
    let more = lines_more xs i x lt at in
    let within = lines_within xs (i + 1) in
    let room = c.requires.room in
    let out = lines_next t xs i c.loop-row.n x c.in-Ok.label c.args.out.now c.loop-row.out c.write.new.out lt at (label_is t x c.in-Ok.label c.in-Ok.ensures) c.loop-row.invariant.0 (omega arith) c.loop-row.invariant.1 c.write.ensures.buffer in
    let long = ap length out ∙ length_over (step_lines t (take (i + 1) xs)) c.args.out.now (omega (arith, length_step_lines t (take (i + 1) xs))) in
    (omega (arith, more, c.loop-row.invariant.0), out, omega (arith, more, c.loop-row.invariant.0), omega (arith, more, c.loop-row.invariant.0))
