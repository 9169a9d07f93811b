use Rattle.std.proofs.Common.{length}
use Rattle.bench.specs.Calls.{added}
use Rattle.sheets.specs.Pages.{open_page}
use Rattle.sheets.proofs.NeverByStanding.{add_fair, fair_count}
use Rattle.sheets.proofs.open_sheet.OpenSheet.add.Goals as goal

pub returns-clause-standing : goal.returns-clause-standing
returns-clause-standing g c =
    let t = g.S.StepSystem.transitions c.args.system.now in
    let p = open_page c.args.self.now in
    fair_count (added t c.args.step.now (length c.args.out.now) p) (add_fair t p c.args.self.now.open c.args.step.now (length c.args.out.now)) c.add.result c.add.ensures.answer
