-- Joining one list of steps to another: a relation, how join computes it, and what it means for exchanges and runs. Assumes nothing but, where it says so, the laws of a step system.
use Rattle.std.proofs.Common.{◌≡◌, ℕ, suc, ◌+◌, List, [], ◌∷◌, ◌++◌, length, Some, None, Ok, Err, Option, Result, sym, refl, ap, ◌∙◌, subst, append_assoc, append-nil, arith}
use Rattle.steps.specs.Meaning.{Str, Transitions, Independence}
use Rattle.steps.specs.Laws.{Laws}
use Rattle.runs.specs.Run.{Run}
use Rattle.runs.specs.Run.Run.{stays, goes}
use Rattle.runs.specs.Exchange.{Exchanged}
use Rattle.runs.specs.Join.{Carried, carry, Joined, one_shared, one_added, join}
use Rattle.runs.specs.Join.Carried.{clash, gone, kept}
use Rattle.runs.proofs.Runs.{run_append, run_end_state}
use Rattle.runs.proofs.Exchange.{exchanged_refl, exchanged_trans, exchanged_cons, exchanged_before}
use Rattle.runs.proofs.Carry.{Carries, listed, Came, carry_means, carry_answers, carries_exchanged, carries_runs}

-- e joined to s leaves of e what is added behind s, and of s what remains behind e.
pub data Joins (i : Independence) : List Str → List Str → List Str → List Str → Type 0 where
  ends : {s : List Str} → Joins i s [] [] s
  then : {y : Str} {s : List Str} {rest : Option Str} {q e added remains : List Str} → Carries i y s rest q → Joins i q e added remains → Joins i s (y ∷ e) (listed rest ++ added) remains

-- the n-th step of e, from 1, is the first that clashes where e is joined to s
pub data Clashes (i : Independence) : List Str → List Str → ℕ → Type 0 where
  now : {y : Str} {s e : List Str} → carry i y s ≡ clash → Clashes i s (y ∷ e) 1
  then : {y : Str} {s : List Str} {rest : Option Str} {q e : List Str} {n : ℕ} → Carries i y s rest q → Clashes i q e n → Clashes i s (y ∷ e) (suc n)

module _ {i : Independence} where
  -- s and what is added are e and what remains, up to exchanges
  pub joins_exchanged : {s e added remains : List Str} → Joins i s e added remains → Exchanged i (s ++ added) (e ++ remains)
  joins_exchanged {s} ends = exchanged_refl (append-nil s)
  joins_exchanged {s} (Joins.then {y = y} {rest = rest} {added = added} c j) =
      exchanged_trans (exchanged_refl (sym (append_assoc s (listed rest) added)))
      (exchanged_trans (exchanged_before added (carries_exchanged c)) (exchanged_cons y (joins_exchanged j)))

module _ {t : Transitions} {i : Independence} (laws : Laws t i) where
  -- two runs from one start: what is added goes on from the one's end, what remains from the other's, to one end
  pub joins_runs : {s e added remains : List Str} {a b c : Str} → Joins i s e added remains → Run t a s b → Run t a e c → (d : Str) × Run t b added d × Run t c remains d
  joins_runs {b = b} ends r (stays p) = (b, stays (run_end_state laws r), r)
  joins_runs (Joins.then k j) r (goes n q) =
      let step = carries_runs laws k r n in
      let end = joins_runs j step.2 q in
      (end.0, run_append t step.1 end.1, end.2)

module _ (i : Independence) where
  -- joining the next step, as it computes
  pub join_clash : (s : List Str) (y : Str) (e : List Str) → carry i y s ≡ clash → join i s (y ∷ e) ≡ Err 1
  unfolding join
  join_clash s y e p = rw (p, join)

  pub join_gone : (s : List Str) (y : Str) (e q : List Str) → carry i y s ≡ gone q → join i s (y ∷ e) ≡ one_shared (join i q e)
  unfolding join
  join_gone s y e q p = rw (p, join)

  pub join_kept : (s : List Str) (y : Str) (e : List Str) (y' : Str) (q : List Str) → carry i y s ≡ kept y' q → join i s (y ∷ e) ≡ one_added y' (join i q e)
  unfolding join
  join_kept s y e y' q p = rw (p, join)

  -- what each outcome of a join says
  abbrev pub CameOf : List Str → List Str → Result Joined ℕ → Type 0
  CameOf s e (Ok j) = Joins i s e j.added j.remains × (length j.added + j.shared ≡ length e)
  CameOf s e (Err n) = Clashes i s e n

  came_shared : (s : List Str) (y : Str) (q e : List Str) → Carries i y s None q → (r : Result Joined ℕ) → CameOf q e r → CameOf s (y ∷ e) (one_shared r)
  came_shared s y q e k (Ok j) (h, l) = (Joins.then k h, omega arith)
  came_shared s y q e k (Err n) h = Clashes.then k h

  came_added : (s : List Str) (y y' : Str) (q e : List Str) → Carries i y s (Some y') q → (r : Result Joined ℕ) → CameOf q e r → CameOf s (y ∷ e) (one_added y' r)
  came_added s y y' q e k (Ok j) (h, l) = (Joins.then k h, omega arith)
  came_added s y y' q e k (Err n) h = Clashes.then k h

  pub join_means : (s e : List Str) → CameOf s e (join i s e)
  unfolding join
  join_means s [] = (ends, refl)
  join_means s (y ∷ e) = go (carry i y s) refl (carry_means i y s) (λ q. join_means q e)
    where
      go : (c : Carried) → carry i y s ≡ c → Came i y s c → ((q : List Str) → CameOf q e (join i q e)) → CameOf s (y ∷ e) (elim c as (λ _. Result Joined ℕ) [ clash ↦ Err 1 | gone r ↦ one_shared (join i r e) | kept y' r ↦ one_added y' (join i r e) ])
      go clash p k h = now p
      go (gone q) p k h = came_shared s y q e k (join i q e) (h q)
      go (kept y' q) p k h = came_added s y y' q e k (join i q e) (h q)

  -- so the relations hold of what join answers
  pub join_ok : (s e : List Str) (j : Joined) → join i s e ≡ Ok j → Joins i s e j.added j.remains × (length j.added + j.shared ≡ length e)
  join_ok s e j p = subst (CameOf s e) p (join_means s e)

  pub join_err : (s e : List Str) (n : ℕ) → join i s e ≡ Err n → Clashes i s e n
  join_err s e n p = subst (CameOf s e) p (join_means s e)

module _ {t : Transitions} {i : Independence} (laws : Laws t i) where
  pub join_accepts : {s e added remains : List Str} → Joins i s e added remains → (shared : ℕ) × (join i s e ≡ Ok (record { added = added; remains = remains; shared = shared }))
  unfolding join
  join_accepts ends = (0, refl)
  join_accepts {s} (Joins.then {y = y} {rest = None} {q = q} {e = e} k j) = let a = join_accepts j in (suc a.0, join_gone i s y e q (carry_answers laws k) ∙ ap one_shared a.1)
  join_accepts {s} (Joins.then {y = y} {rest = Some y'} {q = q} {e = e} k j) = let a = join_accepts j in (a.0, join_kept i s y e y' q (carry_answers laws k) ∙ ap (one_added y') a.1)

  pub join_clashes : {s e : List Str} {n : ℕ} → Clashes i s e n → join i s e ≡ Err n
  join_clashes {s} (now {y = y} {e = e} p) = join_clash i s y e p
  join_clashes {s} (Clashes.then {y = y} {rest = None} {q = q} {e = e} k c) = join_gone i s y e q (carry_answers laws k) ∙ ap one_shared (join_clashes c)
  join_clashes {s} (Clashes.then {y = y} {rest = Some y'} {q = q} {e = e} k c) = join_kept i s y e y' q (carry_answers laws k) ∙ ap (one_added y') (join_clashes c)
