use Rattle.std.proofs.Common.{length, sym, ap, ◌∙◌, arith}
use Rattle.byte_strings.specs.Buffer.{count, buffer_after}
use Rattle.bench.specs.Calls.{answered, withdrawn}
use Rattle.bench.proofs.Tabled.{here, pages_then}
use Rattle.bench.proofs.bench.Bench.withdraw.Goals as goal

pub returns-clause-answer : goal.returns-clause-answer
returns-clause-answer g c =
    c.withdraw.ensures.answer ∙ sym (ap (λ o. count (answered o)) (here c.args.self.now.sheets c.args.sheet c.in_ok-s.s c.in_ok-s.ensures c.index-self-s.result (omega arith) (withdrawn (g.S.StepSystem.transitions c.args.system.now) (length c.args.out.now))))

pub returns-clause-buffer : goal.returns-clause-buffer
returns-clause-buffer g c =
    c.withdraw.ensures.buffer ∙ sym (ap (λ o. buffer_after (answered o) c.args.out.now) (here c.args.self.now.sheets c.args.sheet c.in_ok-s.s c.in_ok-s.ensures c.index-self-s.result (omega arith) (withdrawn (g.S.StepSystem.transitions c.args.system.now) (length c.args.out.now))))

pub returns-clause-pages : goal.returns-clause-pages
returns-clause-pages g c =
    pages_then c.args.self.now.sheets c.args.sheet c.in_ok-s.s c.in_ok-s.ensures c.index-self-s.result (omega arith) (withdrawn (g.S.StepSystem.transitions c.args.system.now) (length c.args.out.now)) c.withdraw.new.self c.withdraw.ensures.page
