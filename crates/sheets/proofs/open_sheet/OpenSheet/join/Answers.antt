use Rattle.std.proofs.Common.{Some, ap, ◌∙◌}
use Rattle.bench.specs.Calls.{answered, after}
use Rattle.bench.specs.Join.{joined}
use Rattle.sheets.specs.Pages.{open_page, any_page}
use Rattle.sheets.proofs.NeverByStanding.{join_fair, fair_pair}
use Rattle.sheets.proofs.TypedSheets.{never_blank, same_open}
use Rattle.sheets.proofs.open_sheet.OpenSheet.join.Goals as goal

pub returns-clause-answer : goal.returns-clause-answer
returns-clause-answer g c =
    let t = g.S.StepSystem.transitions c.args.system.now in
    let i = g.S.StepSystem.independence c.args.system.now in
    c.join.ensures.answer ∙ ap (λ e. answered (joined t i (Some e) (open_page c.args.self.now))) c.sheet.ensures

pub returns-clause-page : goal.returns-clause-page
returns-clause-page g c =
    let t = g.S.StepSystem.transitions c.args.system.now in
    let i = g.S.StepSystem.independence c.args.system.now in
    c.join.ensures.page ∙ ap (λ e. after (joined t i (Some e) (open_page c.args.self.now)) (open_page c.args.self.now)) c.sheet.ensures

pub returns-clause-untouched : goal.returns-clause-untouched
returns-clause-untouched g c refused = same_open _ _ (c.join.ensures.untouched refused)

pub returns-clause-standing : goal.returns-clause-standing
returns-clause-standing g c =
    let t = g.S.StepSystem.transitions c.args.system.now in
    let i = g.S.StepSystem.independence c.args.system.now in
    let p = open_page c.args.self.now in
    let o = joined t i (Some (any_page c.args.other)) p in
    fair_pair o (join_fair t p c.args.self.now.open i (any_page c.args.other) (never_blank c.args.other)) c.join.result
    (c.join.ensures.answer ∙ ap (λ e. answered (joined t i (Some e) p)) c.sheet.ensures)
