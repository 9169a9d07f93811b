-- A renaming keeps the laws of step systems wherever the system inside does.
use Rattle.std.specs.Prelude.{List}
use Rattle.std.proofs.Common.{ap}
use Rattle.actions.specs.declared.pairs.Pair.{Pair}
use Rattle.steps.specs.Meaning.{Transitions, Independence}
use Rattle.steps.specs.Laws.{Laws}
use Rattle.layers.specs.Renaming.{renamed_label, renaming_transitions}

-- No law but one speaks of labels: what is left of a step shows what the step shows, so both are
-- renamed alike.
pub renaming_laws : (pairs : List Pair) (t : Transitions) (i : Independence) → Laws t i
    → Laws (renaming_transitions pairs t) i
renaming_laws pairs t i l =
    record {
      state_refusals = l.state_refusals;
      step_refusals = l.step_refusals;
      leads = l.leads;
      between_steps = l.between_steps;
      symmetric = l.symmetric;
      irreflexive = l.irreflexive;
      diamond = l.diamond;
      left_step = l.left_step;
      left_label = λ x y z e. ap (renamed_label pairs) (l.left_label x y z e);
      left_length = l.left_length;
      origin = l.origin;
      origin_possible = l.origin_possible;
      cube = l.cube;
      independent_before = l.independent_before;
    }
