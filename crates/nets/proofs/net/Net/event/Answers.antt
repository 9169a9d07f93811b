use Rattle.std.proofs.Common.{◌≡◌, [], ◌∷◌, Some, Ok, arith, slice_get}
use Rattle.std.proofs.lemmas.Grind.{elements}
use Rattle.nets.specs.Contents.{events_of}
use Rattle.nets.specs.System.{read_event, event_answer}
use Rattle.nets.proofs.Naming.{answer_names}
use Rattle.nets.proofs.Sets.{named_proper}
use Rattle.nets.proofs.net.Net.event.Goals as goal

pub returns-clause-proper : goal.returns-clause-proper
returns-clause-proper c =
    let es = events_of c.args.self.now in
    let answer : Ok c.in_ok-event.event.now ≡ event_answer (read_event es c.args.step.now) = grind (arith, elements) in
    named_proper es c.args.self.now.sound c.args.step.now c.in_ok-event.event.now
    (answer_names es c.args.step.now c.in_ok-event.event.now answer)
