use Rattle.std.proofs.Common.{sym, ◌∙◌}
use Rattle.bench.specs.Calls.{released}
use Rattle.sheets.specs.Pages.{open_page}
use Rattle.sheets.proofs.NeverByStanding.{release_fair, fair_fault}
use Rattle.sheets.proofs.TypedSheets.{left_page, left_fault}
use Rattle.sheets.proofs.open_sheet.OpenSheet.release.Goals as goal

pub returns-in-Ok-clause-answer : goal.returns-in-Ok-clause-answer
returns-in-Ok-clause-answer g c =
    let o = released (g.S.StepSystem.transitions c.args.system.now) (open_page c.args.self) in
    left_page o (open_page c.args.self) _ (sym c.in-Ok.is ∙ c.release.ensures.answer) c.release.ensures.page

pub returns-in-Err-clause-answer : goal.returns-in-Err-clause-answer
returns-in-Err-clause-answer g c =
    let o = released (g.S.StepSystem.transitions c.args.system.now) (open_page c.args.self) in
    left_fault o c.in-Err.fault (sym c.in-Err.is ∙ c.release.ensures.answer)

pub returns-in-Err-clause-standing : goal.returns-in-Err-clause-standing
returns-in-Err-clause-standing g c =
    let t = g.S.StepSystem.transitions c.args.system.now in
    let p = open_page c.args.self in
    fair_fault (released t p) (release_fair t p c.args.self.open) c.in-Err.fault (sym c.in-Err.is ∙ c.release.ensures.answer)
