use Rattle.byte_strings.proofs.Lists.{holds_more}
use Rattle.byte_strings.proofs.list.FixedList.push.Goals as goal

pub invariant_of-self : goal.invariant_of-self
invariant_of-self g c =
    let (_, long, clear) = c.self.invariant in
    holds_more c.self.inside.places g.row.N c.self.inside.len c.args.item g.T.Blank.blank
    long clear c.if-self.true
