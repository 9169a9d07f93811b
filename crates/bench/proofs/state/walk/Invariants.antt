use Rattle.std.proofs.Common.{◌≡◌, ◌+◌, drop}
use Rattle.bench.specs.Walk.{walked}
use Rattle.bench.proofs.state.walk.Given as goal

abbrev pub invariant-loop-i : goal.invariant-loop-i
invariant-loop-i g l = walked (g.S.StepSystem.transitions l.system) l.state (drop l.i l.steps) (l.i + 1) ≡ walked (g.S.StepSystem.transitions l.system) l.start l.steps 1
