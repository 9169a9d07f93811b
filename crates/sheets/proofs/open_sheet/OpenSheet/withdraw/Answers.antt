use Rattle.std.proofs.Common.{length}
use Rattle.bench.specs.Calls.{withdrawn}
use Rattle.sheets.specs.Pages.{open_page}
use Rattle.sheets.proofs.NeverByStanding.{withdraw_fair, fair_count}
use Rattle.sheets.proofs.open_sheet.OpenSheet.withdraw.Goals as goal

pub returns-clause-standing : goal.returns-clause-standing
returns-clause-standing g c =
    let t = g.S.StepSystem.transitions c.args.system.now in
    let p = open_page c.args.self.now in
    fair_count (withdrawn t (length c.args.out.now) p) (withdraw_fair t p c.args.self.now.open (length c.args.out.now)) c.withdraw.result c.withdraw.ensures.answer
