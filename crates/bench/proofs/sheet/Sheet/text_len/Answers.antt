use Rattle.std.proofs.Common.{length, ap, arith}
use Rattle.bench.specs.Page.{page_of, steps_of}
use Rattle.bench.proofs.Printing.{lines_more}
use Rattle.bench.proofs.sheet.Sheet.text_len.Goals as goal

pub loop-step-preserved : goal.loop-step-preserved
loop-step-preserved c =
    let more = lines_more (steps_of (page_of c.args.self.now)) c.loop-step.step-index c.step-item.result c.loop-step-test.true c.step-item.is in
    let same = ap length c.items.ensures.value in
    (omega (arith, more, same, c.loop-step.invariant.0), omega (arith, same, c.items.ensures.few))
