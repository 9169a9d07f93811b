use Rattle.std.proofs.Common.{ap, length, arith}
use Rattle.terms.specs.Bodies.{sound_bodies_of}
use Rattle.terms.proofs.terms.Terms.new.Goals as goal

pub invariant_of-result : goal.invariant_of-result
unfolding sound_bodies_of
invariant_of-result c = record {
  limited = omega (arith, c.min.ensures);
  few = omega (arith, ap length c.empty.ensures);
  sound = ap (sound_bodies_of c.min.result) c.empty.ensures;
}
