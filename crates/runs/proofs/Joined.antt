-- What carrying and joining mean, of every step system.
use Rattle.std.proofs.Common.{sym, subst, append-nil, arith, length-append}
use Rattle.runs.specs.Run.{Run}
use Rattle.runs.specs.Exchange.Exchanged.{none}
use Rattle.runs.specs.JoinLaws.{GoneExchanged, KeptExchanged, CarriedRuns, JoinedRuns, JoinedExtends, JoinedLength}
use Rattle.runs.proofs.Runs.{run_none, run_one, run_append}
use Rattle.runs.proofs.Exchange.{exchanged_refl, exchanged_trans}
use Rattle.runs.proofs.Carry.{carry_gone, carry_kept, carries_exchanged, carries_runs}
use Rattle.runs.proofs.Join.{join_ok, joins_exchanged, joins_runs}

pub gone_exchanged : GoneExchanged
gone_exchanged i y s q e = exchanged_trans (exchanged_refl (sym (append-nil s))) (carries_exchanged (carry_gone i y s q e))

pub kept_exchanged : KeptExchanged
kept_exchanged i y s y' q e = carries_exchanged (carry_kept i y s y' q e)

pub carried_runs : CarriedRuns
carried_runs t i laws a s b y c r n = (
  (λ q e. let end = carries_runs laws (carry_gone i y s q e) r n in subst (λ d. Run t c q d) (sym (run_none t end.1)) end.2),
  (λ y' q e. let end = carries_runs laws (carry_kept i y s y' q e) r n in (end.0, run_one t end.1, end.2)),
)

pub joined_runs : JoinedRuns
joined_runs t i laws a s b e c j r q p =
    let end = joins_runs laws (join_ok i s e j p).0 r q in
    (end.0, end.1, end.2, run_append t r end.1)

pub joined_extends : JoinedExtends
joined_extends i s e j p =
    let exchanged = joins_exchanged (join_ok i s e j p).0 in
    (exchanged, (j.added, none), (j.remains, exchanged))

pub joined_length : JoinedLength
joined_length i s e j p = rw length-append (omega (arith, (join_ok i s e j p).1))
