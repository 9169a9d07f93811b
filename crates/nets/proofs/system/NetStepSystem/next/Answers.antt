use Rattle.std.proofs.Common.{length, rules}
use Rattle.nets.specs.Contents.{events_of}
use Rattle.nets.proofs.Answered.{next_moves, next_whole, next_stuck}
use Rattle.nets.proofs.system.NetStepSystem.next.Goals as goal

pub returns-in_err-marking-clause-whole : goal.returns-in_err-marking-clause-whole
returns-in_err-marking-clause-whole c = next_whole
    (events_of c.args.self.now) c.args.self.now.sound c.args.state.now c.args.step.now (length c.args.out.now)
    (search rules)

pub returns-in_err-marking-clause-stuck : goal.returns-in_err-marking-clause-stuck
returns-in_err-marking-clause-stuck c = next_stuck
    (events_of c.args.self.now) c.args.self.now.sound c.args.state.now c.args.step.now (length c.args.out.now)
    (search rules)

pub returns-in_err-after-clause-whole : goal.returns-in_err-after-clause-whole
returns-in_err-after-clause-whole c = next_whole
    (events_of c.args.self.now) c.args.self.now.sound c.args.state.now c.args.step.now (length c.args.out.now)
    (search rules)

pub returns-in_err-after-clause-stuck : goal.returns-in_err-after-clause-stuck
returns-in_err-after-clause-stuck c = next_stuck
    (events_of c.args.self.now) c.args.self.now.sound c.args.state.now c.args.step.now (length c.args.out.now)
    (search rules)

pub returns-clause-moves : goal.returns-clause-moves
returns-clause-moves c = next_moves (events_of c.args.self.now) c.args.self.now.sound c.args.state.now c.args.step.now
    (length c.args.out.now) c.args.out.now (search rules) (search rules)

pub returns-clause-stuck : goal.returns-clause-stuck
returns-clause-stuck c = next_stuck (events_of c.args.self.now) c.args.self.now.sound c.args.state.now c.args.step.now
    (length c.args.out.now) (search rules)
