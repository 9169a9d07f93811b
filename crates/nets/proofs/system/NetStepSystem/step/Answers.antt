use Rattle.std.proofs.Common.{rules}
use Rattle.nets.specs.Contents.{events_of}
use Rattle.nets.proofs.Answered.{step_place}
use Rattle.nets.proofs.system.NetStepSystem.step.Goals as goal

pub returns-in_err-event-clause-place : goal.returns-in_err-event-clause-place
returns-in_err-event-clause-place c = step_place (events_of c.args.self.now) c.args.step.now (search rules)
