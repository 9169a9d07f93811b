use Rattle.std.proofs.Common.{sym, ap, ◌∙◌, arith}
use Rattle.bench.specs.Calls.{accepted, released}
use Rattle.bench.proofs.Tabled.{here, pages_then}
use Rattle.bench.proofs.bench.Bench.release.Goals as goal

pub returns-clause-answer : goal.returns-clause-answer
returns-clause-answer g c =
    c.release.ensures.answer ∙ sym (ap accepted (here c.args.self.now.sheets c.args.sheet c.in_ok-s.s c.in_ok-s.ensures c.index-self-s.result (omega arith) (released (g.S.StepSystem.transitions c.args.system.now))))

pub returns-clause-pages : goal.returns-clause-pages
returns-clause-pages g c =
    pages_then c.args.self.now.sheets c.args.sheet c.in_ok-s.s c.in_ok-s.ensures c.index-self-s.result (omega arith) (released (g.S.StepSystem.transitions c.args.system.now)) c.release.new.self c.release.ensures.page
