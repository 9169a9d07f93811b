-- A join is the least list that extends both. Assumes the laws of a step system.
use Rattle.std.proofs.Common.{List, [], ◌∷◌, ◌++◌, refl, append-nil}
use Rattle.steps.specs.Meaning.{Str, Transitions, Independence}
use Rattle.steps.specs.Laws.{Laws}
use Rattle.runs.specs.Exchange.{Exchanged, Extends}
use Rattle.runs.specs.Exchange.Exchanged.{none}
use Rattle.runs.specs.Least.{Least}
use Rattle.runs.proofs.Exchange.{exchanged_refl, exchanged_trans, exchanged_sym, exchanged_on}
use Rattle.runs.proofs.Carry.{listed, carries_split}
use Rattle.runs.proofs.Carry.Carries.{meets}
use Rattle.runs.proofs.CarryExchange.{carries_along}
use Rattle.runs.proofs.Join.{Joins, join_accepts}
use Rattle.runs.proofs.Join.Joins.{ends, then}

module _ {t : Transitions} {i : Independence} (laws : Laws t i) where
  -- where s and e go on to one list, up to exchanges, e can be joined to s, and what follows goes on from what is added, and from what remains
  pub joins_least : (s c e d : List Str) → Exchanged i (s ++ c) (e ++ d) → (added remains rest : List Str) × Joins i s e added remains × Exchanged i c (added ++ rest) × Exchanged i d (remains ++ rest)
  joins_least s c [] d x = ([], s, c, ends, none, exchanged_sym x)
  joins_least s c (y ∷ e) d x =
      let first = carries_along laws (exchanged_sym x) (meets {y = y} {x = y} {xs = e ++ d} refl) in
      let parts = carries_split s c first.1 in
      let later = joins_least parts.1 parts.2 e d (exchanged_sym (exchanged_trans first.2 (exchanged_refl parts.4))) in (
        listed parts.0 ++ later.0,
        later.1,
        later.2,
        then parts.3 later.3,
        exchanged_on {ys = parts.2} (listed parts.0) later.0 later.2 (rw append-nil at parts.5) later.4,
        later.5,
      )

  pub extends_joins : (s e : List Str) {r : List Str} → Extends i r s → Extends i r e → (added remains : List Str) × Joins i s e added remains × Extends i r (s ++ added)
  extends_joins s e (c, f) (d, g) =
      let least = joins_least s c e d (exchanged_trans (exchanged_sym f) g) in
      (least.0, least.1, least.3, (least.2, exchanged_on s least.0 least.2 f least.4))

pub least : Least
least t i laws s e r f g =
    let h = extends_joins laws s e f g in
    let a = join_accepts laws h.2 in
    (record { added = h.0; remains = h.1; shared = a.0 }, a.1, h.3)
