use Rattle.std.proofs.Common.{refl}
use Rattle.bench.specs.Page.{page_of}
use Rattle.bench.proofs.Printing.{text_written}
use Rattle.bench.proofs.sheet.Sheet.write_text.Goals as goal

pub returns : goal.returns
returns g c =
    let p = page_of c.args.self.now in
    let t = g.S.StepSystem.transitions c.args.system.now in
    text_written t p c.args.end.now c.args.out.now c.requires.room c.items-start.result.now c.write.new.out c.print_steps-steps.new.out c.write-2.new.out _ c.print_steps-steps.result
    c.items-start.ensures.value refl c.print_steps-steps.ensures.value c.write.ensures.buffer c.print_steps-steps.ensures.buffer (rw c.items.ensures.value at c.write-2.ensures.buffer)
