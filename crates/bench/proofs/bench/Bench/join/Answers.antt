use Rattle.std.proofs.Common.{get_or, sym, ap, ◌∙◌, arith}
use Rattle.bench.specs.Page.{page_of}
use Rattle.bench.specs.Calls.{answered, after}
use Rattle.bench.specs.Join.{joined}
use Rattle.bench.specs.Table.{pages_of, page_at}
use Rattle.bench.proofs.Tabled.{here, pages_then}
use Rattle.bench.proofs.bench.Bench.join.Goals as goal

pub returns-clause-answer : goal.returns-clause-answer
returns-clause-answer g c =
    let t = g.S.StepSystem.transitions c.args.system.now in
    let i = g.S.StepSystem.independence c.args.system.now in
    let sheets = c.args.self.now.sheets in
    let p = page_of (get_or sheets c.in_ok-s.s c.index-self-s.result) in
    c.join.ensures.answer ∙ ap (λ o. answered (joined t i o p)) c.named-from.ensures
    ∙ sym (ap answered (here sheets c.args.sheet c.in_ok-s.s c.in_ok-s.ensures c.index-self-s.result (omega arith) (joined t i (page_at (pages_of c.args.self.now) c.args.other))))

pub returns-clause-pages : goal.returns-clause-pages
returns-clause-pages g c =
    let t = g.S.StepSystem.transitions c.args.system.now in
    let i = g.S.StepSystem.independence c.args.system.now in
    let sheets = c.args.self.now.sheets in
    let p = page_of (get_or sheets c.in_ok-s.s c.index-self-s.result) in
    pages_then sheets c.args.sheet c.in_ok-s.s c.in_ok-s.ensures c.index-self-s.result (omega arith) (joined t i (page_at (pages_of c.args.self.now) c.args.other)) c.join.new.self (c.join.ensures.page ∙ ap (λ o. after (joined t i o p) p) c.named-from.ensures)
