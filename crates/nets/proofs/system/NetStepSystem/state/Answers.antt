use Rattle.std.proofs.Common.{◌≡◌, Ok, Err, Result, rules, arith}
use Rattle.steps.specs.Answers.{state_answer}
use Rattle.nets.specs.Contents.{events_of}
use Rattle.nets.specs.System.{net_transitions}
use Rattle.nets.proofs.Answered.{state_markings, state_place}
use Rattle.nets.proofs.Spelling.{bytes_at}
use Rattle.nets.proofs.system.NetStepSystem.state.Goals as goal

pub returns-in_err-read-clause-markings : goal.returns-in_err-read-clause-markings
returns-in_err-read-clause-markings c = state_markings (events_of c.args.self.now) c.args.state.now (search rules)

pub returns-in_err-read-clause-place : goal.returns-in_err-read-clause-place
returns-in_err-read-clause-place c = state_place (events_of c.args.self.now) c.args.state.now (search rules)
    (bytes_at c.args.state.now (λ i. omega (arith, c.type_inv.state i)))

pub returns-clause-markings : goal.returns-clause-markings
returns-clause-markings c =
    state_markings (events_of c.args.self.now) c.args.state.now {r = Ok tt} (search rules)
