use Rattle.std.proofs.Common.{◌≡◌, ◌<◌, length, Option, None, sym, ap, ◌∙◌, arith}
use Rattle.nets.specs.declared.event.EventFault.{EventFault}
use Rattle.nets.specs.Contents.{events_of}
use Rattle.nets.specs.Events.{event_fault, events_after}
use Rattle.nets.proofs.Stored.{faultless, room, stored, stored_sound}
use Rattle.nets.proofs.net.Net.add.Goals as goal

pub invariant_of-self : goal.invariant_of-self
invariant_of-self c =
    let space : length (events_of c.args.self.now) < 48 = omega
    (arith, ap length c.items.ensures.value, c.if-items-ge-EVENT_LIMIT.false) in
    record {
      sound = rw c.push.ensures
          (stored_sound (events_of c.args.self.now) c.args.event space c.args.self.now.sound (omega arith) (omega arith)
          (faultless (event_fault c.args.event) c.in_ok-check.ensures.answer));
    }

pub returns-clause-events : goal.returns-clause-events
returns-clause-events c =
    let es = events_of c.args.self.now in
    let space : length es < 48 = omega (arith, ap length c.items.ensures.value, c.if-items-ge-EVENT_LIMIT.false) in
    let fault = room es c.args.event space ∙ faultless (event_fault c.args.event) c.in_ok-check.ensures.answer in
    c.push.ensures ∙ stored es c.args.event space
    ∙ sym (ap (λ (o : Option EventFault). events_after o es c.args.event) fault)
