use Rattle.std.proofs.Common.{length}
use Rattle.bench.specs.Look.{looked}
use Rattle.sheets.specs.Pages.{released_page}
use Rattle.sheets.proofs.TypedSheets.{released_not_blank}
use Rattle.sheets.proofs.NeverByStanding.{look_fair, fair_count}
use Rattle.sheets.proofs.released_sheet.ReleasedSheet.look.Goals as goal

pub returns-clause-standing : goal.returns-clause-standing
returns-clause-standing g c =
    let t = g.S.StepSystem.transitions c.args.system.now in
    let p = released_page c.args.self.now in
    fair_count (looked t c.args.steps (length c.args.out.now) p) (look_fair t p c.args.steps (length c.args.out.now) (released_not_blank c.args.self.now)) c.look.result c.look.ensures.answer
