use Rattle.byte_strings.proofs.Lists.{holds}
use Rattle.byte_strings.proofs.list.FixedList.holding.Goals as goal

pub invariant_of-result : goal.invariant_of-result
invariant_of-result g c = rw (c.copy_from_slice.ensures.after, c.blank-places.ensures)
    (holds c.args.items.now g.row.N g.T.Blank.blank c.requires)
