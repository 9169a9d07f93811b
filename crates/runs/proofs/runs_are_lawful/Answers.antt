use Rattle.runs.proofs.Runs.{one_end, runs_on, falls_apart, last_step, between_states}
use Rattle.runs.proofs.runs_are_lawful.Goals as goal

pub returns : goal.returns
returns c = record { ends = one_end; joins = runs_on; splits = falls_apart; last = last_step; states = between_states }
