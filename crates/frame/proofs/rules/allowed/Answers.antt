use Rattle.std.proofs.Common.{arith}
use Rattle.frame.proofs.Taken.{pairs_length, names_length}
use Rattle.frame.proofs.rules.allowed.Goals as goal

pub invariant_of-result : goal.invariant_of-result
invariant_of-result c =
    let pairs = pairs_length c.args.parts.pairs.now _ c.in_ok-pairs.ensures in
    let names = names_length _ c.args.parts.names.now _ c.in_ok-names.ensures in
    record { placed = omega (arith, pairs, names, c.args.parts.whole, c.args.parts.placed) }
