use Rattle.ccs.proofs.System.{read_terms, read_proofs, states_are_terms, steps_are_proper}
use Rattle.ccs.proofs.Places.{state_place, step_place}
use Rattle.ccs.proofs.strings_are_read.Goals as goal

pub returns : goal.returns
returns c =
    record {
      terms = read_terms;
      proofs = read_proofs;
      states = states_are_terms;
      steps = steps_are_proper;
      state_places = state_place;
      step_places = step_place;
    }
