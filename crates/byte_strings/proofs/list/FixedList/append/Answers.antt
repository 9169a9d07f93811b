use Rattle.std.proofs.Common.{ap, ◌∙◌, ◌++◌, take}
use Rattle.byte_strings.proofs.Lists.{holds_written, appended}
use Rattle.byte_strings.proofs.list.FixedList.append.Goals as goal

pub invariant_of-self : goal.invariant_of-self
invariant_of-self g c =
    let l = c.self.inside in
    let (few, long, clear) = c.self.invariant in
    holds_written l.places c.args.items.now c.copy_from_slice.new.self g.row.N l.len c.min-more.result
    g.T.Blank.blank few long clear c.min-more.ensures c.copy_from_slice.ensures.after

pub returns : goal.returns
returns g c =
    let l = c.self.inside in
    let (few, long, clear) = c.self.invariant in
    appended l.places c.args.items.now c.copy_from_slice.new.self g.row.N l.len c.min-more.result
    few long c.min-more.ensures c.copy_from_slice.ensures.after
    ∙ ap (λ v. take g.row.N (v ++ c.args.items.now)) c.self.view_is
