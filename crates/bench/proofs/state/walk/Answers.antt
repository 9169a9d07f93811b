use Rattle.bench.proofs.Following.{leads_there}
use Rattle.bench.proofs.state.walk.Goals as goal

pub returns : goal.returns
returns g c = leads_there (g.S.StepSystem.transitions c.args.system.now) c.loop-i.state c.args.steps.now c.loop-i.i _ c.loop-i.invariant c.loop-i-test.false
