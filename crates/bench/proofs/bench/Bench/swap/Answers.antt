use Rattle.std.proofs.Common.{sym, ap, ◌∙◌, arith}
use Rattle.bench.specs.Calls.{accepted}
use Rattle.bench.specs.Swap.{swapped}
use Rattle.bench.proofs.Tabled.{here, pages_then}
use Rattle.bench.proofs.bench.Bench.swap.Goals as goal

pub returns-clause-answer : goal.returns-clause-answer
returns-clause-answer g c =
    c.swap.ensures.answer ∙ sym (ap accepted (here c.args.self.now.sheets c.args.sheet c.in_ok-s.s c.in_ok-s.ensures c.index-self-s.result (omega arith) (swapped (g.S.StepSystem.transitions c.args.system.now) (g.S.StepSystem.independence c.args.system.now) c.args.place)))

pub returns-clause-pages : goal.returns-clause-pages
returns-clause-pages g c =
    pages_then c.args.self.now.sheets c.args.sheet c.in_ok-s.s c.in_ok-s.ensures c.index-self-s.result (omega arith) (swapped (g.S.StepSystem.transitions c.args.system.now) (g.S.StepSystem.independence c.args.system.now) c.args.place) c.swap.new.self c.swap.ensures.page
