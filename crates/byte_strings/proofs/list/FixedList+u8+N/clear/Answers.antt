use Rattle.byte_strings.proofs.Lists.{holds_nothing}
use Rattle.byte_strings.proofs.list.FixedList+u8+N.clear.Goals as goal

pub invariant_of-self : goal.invariant_of-self
invariant_of-self g c =
    let (few, long, clear) = c.self.invariant in
    holds_nothing c.self.inside.places c.fill.new.self g.row.N c.self.inside.len 0
    few long clear (c.fill.ensures.after (λ y e. e))
