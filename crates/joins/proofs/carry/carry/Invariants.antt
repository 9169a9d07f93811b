use Rattle.joins.proofs.Carrying.{OnTheWay}
use Rattle.joins.proofs.carry.carry.Given as goal

abbrev pub invariant-loop-x : goal.invariant-loop-x
invariant-loop-x g l = OnTheWay (g.S.StepSystem.transitions l.system) (g.S.StepSystem.independence l.system) l.step l.list l.remains l.carried l.x-index
