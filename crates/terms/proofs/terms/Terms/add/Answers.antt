use Rattle.std.proofs.Common.{◌<◌, length, ap, ◌∙◌, arith}
use Rattle.terms.proofs.Added.{held_is, stored_few, stored_sound, stored_after}
use Rattle.terms.proofs.terms.Terms.add.Goals as goal

pub invariant_of-self : goal.invariant_of-self
invariant_of-self c =
    let same = held_is c.in-Some-of.held c.args.body.now _ c.in-Some-of.ensures in
    let room : length c.args.self.now.bodies < c.args.self.now.count = omega
    (arith, ap length c.items.ensures.value, c.from.ensures, c.if-items-from.false) in
    record {
      limited = c.args.self.now.limited;
      few = rw c.push.ensures
          (stored_few c.args.self.now.count c.args.self.now.bodies c.in-Some-of.held c.args.body.now same room
          c.args.self.now.limited);
      sound = rw c.push.ensures
          (stored_sound c.args.self.now.count c.args.self.now.bodies c.in-Some-of.held c.args.body.now same room
          c.args.self.now.limited c.args.self.now.sound c.in_default.ensures.place);
    }

pub returns-clause-bodies : goal.returns-clause-bodies
returns-clause-bodies c =
    let same = held_is c.in-Some-of.held c.args.body.now _ c.in-Some-of.ensures in
    let room : length c.args.self.now.bodies < c.args.self.now.count = omega
    (arith, ap length c.items.ensures.value, c.from.ensures, c.if-items-from.false) in
    c.push.ensures
    ∙ stored_after c.args.self.now.count c.args.self.now.bodies c.in-Some-of.held c.args.body.now same room
    c.args.self.now.limited c.in_default.ensures.place
