-- Runs that are joined clash exactly where no run extends both. Assumes the laws of a step system.
use Rattle.std.proofs.Common.{◌≡◌, ℕ, zero, suc, ◌<◌, List, [], ◌++◌, take, drop, Ok, Err, Result, sym, refl, ap, ◌∙◌, arith}
use Rattle.std.proofs.lemmas.List.{take-append-drop}
use Rattle.steps.specs.Meaning.{Str, Transitions, Independence}
use Rattle.steps.specs.Laws.{Laws}
use Rattle.steps.proofs.Answered.{ok_not_err}
use Rattle.runs.specs.Run.{Run}
use Rattle.runs.specs.Exchange.Exchanged.{none}
use Rattle.runs.specs.Join.{Joined, join}
use Rattle.runs.specs.Compatible.{Compatible}
use Rattle.runs.specs.Least.{Conflict, ConflictPlace}
use Rattle.runs.proofs.Runs.{run_append, run_take}
use Rattle.runs.proofs.Exchange.{exchanged_refl, extends_trans}
use Rattle.runs.proofs.Carry.{listed}
use Rattle.runs.proofs.Join.{Joins, Clashes, join_ok, join_err, join_clashes, joins_runs, joins_exchanged}
use Rattle.runs.proofs.Join.Joins.{ends}
use Rattle.runs.proofs.Join.Clashes.{now}
use Rattle.runs.proofs.Least.{least}

module _ {i : Independence} where
  -- the steps before the one that clashes are joined
  pub clashes_before : {s e : List Str} {n : ℕ} → Clashes i s e n → (k : ℕ) → k < n → (added remains : List Str) × Joins i s (take k e) added remains
  clashes_before {s} (now p) zero h = ([], s, ends)
  clashes_before (now p) (suc k) h = absurd (omega arith)
  clashes_before {s} (Clashes.then c r) zero h = ([], s, ends)
  clashes_before (Clashes.then {rest = rest} c r) (suc k) h = let j = clashes_before r k (omega arith) in (listed rest ++ j.0, j.1, Joins.then c j.2)

  -- what stands behind it does not matter
  pub clashes_take : {s e : List Str} {n : ℕ} → Clashes i s e n → Clashes i s (take n e) n
  clashes_take (now p) = now p
  clashes_take (Clashes.then c r) = Clashes.then c (clashes_take r)

module _ {t : Transitions} {i : Independence} (laws : Laws t i) where
  -- runs that can be joined are compatible, and compatible ones do not clash
  pub joins_compatible : {s e added remains : List Str} {a b c : Str} → Joins i s e added remains → Run t a s b → Run t a e c → Compatible t i a s e
  joins_compatible {s} {e} {added} {remains} j r q =
      let end = joins_runs laws j r q in
      (s ++ added, end.0, run_append t r end.1, (added, none), (remains, joins_exchanged j))

  pub compatible_accepts : {a : Str} (s e : List Str) (n : ℕ) → Compatible t i a s e → join i s e ≡ Err n → ⊥
  compatible_accepts s e n (r, b, q, f, g) p = let l = least t i laws s e r f g in ok_not_err l.0 n (sym l.1 ∙ p)

  -- so are shorter runs
  pub compatible_take : {a : Str} (s e : List Str) (n : ℕ) → Compatible t i a s e → Compatible t i a s (take n e)
  compatible_take s e n (r, b, q, f, g) = (r, b, q, f, extends_trans (take n e) g (drop n e, exchanged_refl (sym (take-append-drop n e))))

  -- the place of a conflict
  pub clashes_first : {a : Str} (s : List Str) {b : Str} (e : List Str) {c : Str} (n : ℕ) → Run t a s b → Run t a e c → join i s e ≡ Err n → (Compatible t i a s (take n e) → ⊥) × ((k : ℕ) → k < n → Compatible t i a s (take k e))
  clashes_first s e n r q p =
      let c = join_err i s e n p in (
        (λ both. compatible_accepts s (take n e) n both (join_clashes laws (clashes_take c))),
        (λ k h. joins_compatible (clashes_before c k h).2 r (run_take laws k q).1),
      )

pub conflict : Conflict
conflict t i laws a s b e c r q = ((λ f both. compatible_accepts laws s e f.0 both f.1), go (join i s e) refl)
  where
    go : (o : Result Joined ℕ) → join i s e ≡ o → (Compatible t i a s e → ⊥) → (n : ℕ) × (join i s e ≡ Err n)
    go (Ok j) p f = absurd (f (joins_compatible laws (join_ok i s e j p).0 r q))
    go (Err n) p f = (n, p)

pub conflict_place : ConflictPlace
conflict_place t i laws a s b e c r q n = (clashes_first laws s e n r q, go (join i s e) refl)
  where
    go : (o : Result Joined ℕ) → join i s e ≡ o → (Compatible t i a s (take n e) → ⊥) × ((k : ℕ) → k < n → Compatible t i a s (take k e)) → join i s e ≡ Err n
    go (Ok j) p (f, below) = absurd (f (compatible_take laws s e n (joins_compatible laws (join_ok i s e j p).0 r q)))
    go (Err m) p (f, below) =
        let first = clashes_first laws s e m r q p in
        let not_less : m < n → ⊥ = λ h. first.0 (below m h) in
        let not_more : n < m → ⊥ = λ h. f (first.1 n h) in
        p ∙ ap Err (omega arith)
