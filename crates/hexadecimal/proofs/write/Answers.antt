use Rattle.std.proofs.Common.{arith}
use Rattle.byte_strings.proofs.Over.{copied_not, copied_over}
use Rattle.hexadecimal.specs.Hex.{hex}
use Rattle.hexadecimal.proofs.Text.{length_hex, write_more, reads_back}
use Rattle.hexadecimal.proofs.write.Goals as goal

pub returns-then-out-bytes : goal.returns-then-out-bytes
returns-then-out-bytes c =
    let told = copied_not (hex c.args.bytes.now) c.args.out.now (omega (arith, length_hex c.args.bytes.now)) in
    record {
      answer = told.0;
      buffer = told.1;
      round = reads_back c.args.bytes.now (λ k. omega (arith, c.type_inv.bytes k));
    }

pub loop-i-preserved : goal.loop-i-preserved
loop-i-preserved c = rw (c.digit.ensures, c.digit-in-loop-i.ensures)
    (write_more c.args.bytes.now c.args.out.now c.loop-i.out c.loop-i.i (omega arith) (omega arith) c.loop-i.invariant)

pub returns-clause-answer : goal.returns-clause-answer
returns-clause-answer c = rw (← length_hex c.args.bytes.now)
    (copied_over (hex c.args.bytes.now) c.args.out.now (omega (arith, length_hex c.args.bytes.now))).0

pub returns-clause-round : goal.returns-clause-round
returns-clause-round c = reads_back c.args.bytes.now (λ k. omega (arith, c.type_inv.bytes k))
