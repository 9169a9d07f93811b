use Rattle.std.proofs.Common.{sym, ◌∙◌}
use Rattle.bench.specs.Calls.{reopened}
use Rattle.sheets.specs.Pages.{released_page}
use Rattle.sheets.proofs.NeverByStanding.{reopen_fair, fair_fault}
use Rattle.sheets.proofs.TypedSheets.{left_page, left_fault}
use Rattle.sheets.proofs.released_sheet.ReleasedSheet.reopen.Goals as goal

pub returns-in-Ok-clause-answer : goal.returns-in-Ok-clause-answer
returns-in-Ok-clause-answer g c =
    let o = reopened (g.S.StepSystem.transitions c.args.system.now) (released_page c.args.self) in
    left_page o (released_page c.args.self) _ (sym c.in-Ok.is ∙ c.reopen.ensures.answer) c.reopen.ensures.page

pub returns-in-Err-clause-answer : goal.returns-in-Err-clause-answer
returns-in-Err-clause-answer g c =
    let o = reopened (g.S.StepSystem.transitions c.args.system.now) (released_page c.args.self) in
    left_fault o c.in-Err.fault (sym c.in-Err.is ∙ c.reopen.ensures.answer)

pub returns-in-Err-clause-standing : goal.returns-in-Err-clause-standing
returns-in-Err-clause-standing g c =
    let t = g.S.StepSystem.transitions c.args.system.now in
    let p = released_page c.args.self in
    fair_fault (reopened t p) (reopen_fair t p c.args.self.released) c.in-Err.fault (sym c.in-Err.is ∙ c.reopen.ensures.answer)
