use Rattle.std.proofs.Common.{length}
use Rattle.bench.specs.Print.{printed}
use Rattle.sheets.specs.Pages.{released_page}
use Rattle.sheets.proofs.NeverByStanding.{print_fair, fair_count}
use Rattle.sheets.proofs.released_sheet.ReleasedSheet.print.Goals as goal

pub returns-clause-standing : goal.returns-clause-standing
returns-clause-standing g c =
    let t = g.S.StepSystem.transitions c.args.system.now in
    let p = released_page c.args.self.now in
    fair_count (printed t (length c.args.out.now) p) (print_fair t p c.args.self.now.released (length c.args.out.now)) c.print.result c.print.ensures.answer
