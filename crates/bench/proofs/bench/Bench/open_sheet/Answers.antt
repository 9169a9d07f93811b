use Rattle.std.proofs.Common.{sym, ap, ◌∙◌, arith}
use Rattle.bench.specs.Calls.{accepted, opened}
use Rattle.bench.proofs.Tabled.{here, pages_then}
use Rattle.bench.proofs.bench.Bench.open_sheet.Goals as goal

pub returns-clause-answer : goal.returns-clause-answer
returns-clause-answer g c =
    c.start_at.ensures.answer ∙ sym (ap accepted (here c.args.self.now.sheets c.args.sheet c.in_ok-s.s c.in_ok-s.ensures c.index-self-s.result (omega arith) (opened (g.S.StepSystem.transitions c.args.system.now) c.args.state.now)))

pub returns-clause-pages : goal.returns-clause-pages
returns-clause-pages g c =
    pages_then c.args.self.now.sheets c.args.sheet c.in_ok-s.s c.in_ok-s.ensures c.index-self-s.result (omega arith) (opened (g.S.StepSystem.transitions c.args.system.now) c.args.state.now) c.start_at.new.self c.start_at.ensures.page
