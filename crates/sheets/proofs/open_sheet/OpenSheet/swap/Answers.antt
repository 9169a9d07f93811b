use Rattle.bench.specs.Swap.{swapped}
use Rattle.sheets.specs.Pages.{open_page}
use Rattle.sheets.proofs.NeverByStanding.{swap_fair, fair_accept}
use Rattle.sheets.proofs.open_sheet.OpenSheet.swap.Goals as goal

pub returns-clause-standing : goal.returns-clause-standing
returns-clause-standing g c =
    let t = g.S.StepSystem.transitions c.args.system.now in
    let p = open_page c.args.self.now in
    fair_accept (swapped t (g.S.StepSystem.independence c.args.system.now) c.args.place p) (swap_fair t p c.args.self.now.open (g.S.StepSystem.independence c.args.system.now) c.args.place) c.swap.result c.swap.ensures.answer
