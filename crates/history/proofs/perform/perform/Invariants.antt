use Rattle.std.proofs.Common.{map}
use Rattle.bench.specs.Table.{pages_of}
use Rattle.history.specs.Views.{call_view}
use Rattle.history.proofs.Performing.{SoFar}
use Rattle.history.proofs.perform.perform.Given as goal

abbrev pub invariant-loop-i : goal.invariant-loop-i
invariant-loop-i g l = SoFar (g.S.StepSystem.transitions l.system) (g.S.StepSystem.independence l.system) (map call_view l.calls) l.initial.answers l.answers (pages_of l.bench) l.i
