use Rattle.std.proofs.Common.{sym, arith}
use Rattle.frame.proofs.Bodies.{all_there}
use Rattle.frame.proofs.layout.split_definitions.Goals as goal

pub invariant_of-definitions : goal.invariant_of-definitions
invariant_of-definitions c = record {
  within = omega (arith, c.in_ok-count.ensures.cases);
  whole = all_there _ _ _ (sym c.in_ok-behind.ensures);
}
