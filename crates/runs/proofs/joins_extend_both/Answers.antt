use Rattle.runs.proofs.Joined.{gone_exchanged, kept_exchanged, carried_runs, joined_runs, joined_extends, joined_length}
use Rattle.runs.proofs.joins_extend_both.Goals as goal

pub returns : goal.returns
returns c = record { gone = gone_exchanged; kept = kept_exchanged; carried = carried_runs; runs = joined_runs; extends = joined_extends; length = joined_length }
