-- The opposite join. Assumes nothing but, where it says so, the laws of a step system.
use Rattle.std.proofs.Common.{◌≡◌, List, [], ◌∷◌, ◌++◌, Ok, Option, sym, ap, ◌∙◌, subst, arith, length-append}
use Rattle.steps.specs.Meaning.{Str, Independence}
use Rattle.runs.specs.Run.{Run}
use Rattle.runs.specs.Join.{Joined}
use Rattle.runs.specs.Least.{Opposite, OppositeEnd}
use Rattle.runs.proofs.Runs.{run_end_unique}
use Rattle.runs.proofs.Exchange.{exchanged_length, exchanged_keeps_run}
use Rattle.runs.proofs.Carry.{Carries, listed}
use Rattle.runs.proofs.Carry.Carries.{through, meets, past}
use Rattle.runs.proofs.Join.{Joins, join_ok, join_accepts, joins_exchanged}
use Rattle.runs.proofs.Join.Joins.{ends, then}

module _ {i : Independence} where
  -- all of a list is added to no steps
  joins_none : (s : List Str) → Joins i [] s s []
  joins_none [] = ends
  joins_none (x ∷ s) = then through (joins_none s)

  -- where y is carried through s and e comes behind it: s joined to both
  joins_cons : {y : Str} {s : List Str} {rest : Option Str} {q e added remains : List Str} → Carries i y s rest q → Joins i e q remains added → Joins i (y ∷ e) s remains (listed rest ++ added)
  joins_cons through ends = ends
  joins_cons (meets e) j = then (meets (sym e)) j
  joins_cons (past e f c) (then k j) = then (past f e k) (joins_cons c j)

  pub joins_opposite : {s e added remains : List Str} → Joins i s e added remains → Joins i e s remains added
  joins_opposite {s} ends = joins_none s
  joins_opposite (then c j) = joins_cons c (joins_opposite j)

pub opposite : Opposite
opposite t i laws s e j p =
    let h = join_ok i s e j p in
    let a = join_accepts laws (joins_opposite h.0) in
    let l = join_ok i e s _ a.1 in
    let both = exchanged_length (joins_exchanged h.0) in
    let same : a.0 ≡ j.shared = omega (arith, length-append s j.added, length-append e j.remains) in
    a.1 ∙ ap (λ n. Ok (record { added = j.remains; remains = j.added; shared = n })) same

pub opposite_end : OppositeEnd
opposite_end t i laws a s e j k b c p q r r' =
    let turned : k ≡ record { added = j.remains; remains = j.added; shared = j.shared } = cc (opposite t i laws s e j p) in
    run_end_unique t
    (exchanged_keeps_run laws (joins_exchanged (join_ok i s e j p).0) r)
    (subst (λ (m : Joined). Run t a (e ++ m.added) c) turned r')
