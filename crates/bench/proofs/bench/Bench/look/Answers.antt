use Rattle.std.proofs.Common.{length, sym, ap, ◌∙◌, arith}
use Rattle.byte_strings.specs.Buffer.{count, buffer_after}
use Rattle.bench.specs.Calls.{answered}
use Rattle.bench.specs.Look.{looked}
use Rattle.bench.proofs.Tabled.{here}
use Rattle.bench.proofs.bench.Bench.look.Goals as goal

pub returns-clause-answer : goal.returns-clause-answer
returns-clause-answer g c =
    c.look.ensures.answer ∙ sym (ap (λ o. count (answered o)) (here c.args.self.now.sheets c.args.sheet c.in_ok-s.s c.in_ok-s.ensures c.index-self-s.result (omega arith) (looked (g.S.StepSystem.transitions c.args.system.now) c.args.steps (length c.args.out.now))))

pub returns-clause-buffer : goal.returns-clause-buffer
returns-clause-buffer g c =
    c.look.ensures.buffer ∙ sym (ap (λ o. buffer_after (answered o) c.args.out.now) (here c.args.self.now.sheets c.args.sheet c.in_ok-s.s c.in_ok-s.ensures c.index-self-s.result (omega arith) (looked (g.S.StepSystem.transitions c.args.system.now) c.args.steps (length c.args.out.now))))
