use Rattle.joins.proofs.Joining.{SoFar}
use Rattle.joins.proofs.join.join.Given as goal

abbrev pub invariant-loop-k : goal.invariant-loop-k
invariant-loop-k g l = SoFar (g.S.StepSystem.transitions l.system) (g.S.StepSystem.independence l.system) l.s l.e l.added l.remains l.k
