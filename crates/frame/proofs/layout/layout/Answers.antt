use Rattle.std.proofs.Common.{sym, arith}
use Rattle.frame.proofs.Bodies.{part_length, part_even}
use Rattle.frame.proofs.layout.layout.Goals as goal

pub invariant_of-parts : goal.invariant_of-parts
invariant_of-parts c =
    let first = part_length 2 c.args.fields.now c.in_ok-pairs.pairs.now c.in_ok-pairs.rest.now
    (sym c.in_ok-pairs.ensures.part) in
    let second = part_length 1 c.in_ok-pairs.rest.now c.in_ok-names.names.now c.in_ok-names.rest.now
    (sym c.in_ok-names.ensures.part) in
    record {
      whole = part_even c.args.fields.now c.in_ok-pairs.pairs.now c.in_ok-pairs.rest.now
          (sym c.in_ok-pairs.ensures.part);
      within = omega (arith, first, second);
      placed = c.in_ok-system.ensures.placed;
    }
