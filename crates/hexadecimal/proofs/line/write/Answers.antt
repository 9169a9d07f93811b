use Rattle.std.proofs.Common.{arith}
use Rattle.hexadecimal.proofs.Lines.{line_short, line_written}
use Rattle.hexadecimal.proofs.line.write.Goals as goal

pub returns-then-n-m : goal.returns-then-n-m
returns-then-n-m c =
    let told = line_short c.args.front.now c.args.back.now c.args.out.now (omega arith) in
    record { answer = told.0; buffer = told.1 }

pub returns : goal.returns
returns c =
    let told = line_written c.args.front.now c.args.back.now c.args.out.now c.write.new.out c.write-2.new.out
    (omega arith) c.write.ensures.buffer c.write-2.ensures.buffer in
    record { answer = told.0; buffer = told.1 }
