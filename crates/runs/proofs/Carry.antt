-- Carrying a step through a list: a relation, how carry computes it, and what it means for exchanges and runs. Assumes nothing but, where it says so, the laws of a step system.
use Rattle.std.proofs.Common.{◌≡◌, Bool, true, false, List, [], ◌∷◌, ◌++◌, Some, None, Ok, Option, sym, refl, ap, ◌∙◌, subst, ap₂, inl, inr, true≢false, append-nil}
use Rattle.std.proofs.lemmas.Slice.Eq.{bytes_eq-Decides}
use Rattle.std.proofs.lemmas.Bool.{cases_Bool}
use Rattle.std.specs.Str.{bytes_eq}
use Rattle.steps.specs.Meaning.{Str, Transitions, Independence}
use Rattle.steps.specs.Laws.{Laws}
use Rattle.steps.proofs.Answered.{some_not_none}
use Rattle.runs.specs.Run.{Run}
use Rattle.runs.specs.Run.Run.{stays, goes}
use Rattle.runs.specs.Exchange.{Exchanged}
use Rattle.runs.specs.Exchange.Exchange.{here}
use Rattle.runs.specs.Exchange.Exchanged.{none}
use Rattle.runs.specs.Join.{Met, both_left, meet, Carried, in_front, carry}
use Rattle.runs.specs.Join.Met.{same, passes, hits}
use Rattle.runs.specs.Join.Carried.{clash, gone, kept}
use Rattle.runs.proofs.Exchange.{exchanged_one, exchanged_refl, exchanged_trans, exchanged_cons}
use Rattle.runs.proofs.Runs.{run_end_state}

-- y carried through a list leaves of itself nothing or one step, and of the list what remains.
pub data Carries (i : Independence) : Str → List Str → Option Str → List Str → Type 0 where
  through : {y : Str} → Carries i y [] (Some y) []
  meets : {y x : Str} {xs : List Str} → y ≡ x → Carries i y (x ∷ xs) None xs
  past : {y x y' x' : Str} {xs : List Str} {rest : Option Str} {remains : List Str} → i.left y x ≡ Some y' → i.left x y ≡ Some x' → Carries i y' xs rest remains → Carries i y (x ∷ xs) rest (x' ∷ remains)

module _ (i : Independence) where
  -- what each outcome of a meeting says
  abbrev pub Meant : Str → Str → Met → Type 0
  Meant y x same = y ≡ x
  Meant y x (passes y' x') = (i.left y x ≡ Some y') × (i.left x y ≡ Some x')
  Meant y x hits = y ≡ x → ⊥

  pub meet_means : (y x : Str) → Meant y x (meet i y x)
  unfolding meet
  meet_means y x = go (bytes_eq y x) refl
    where
      lefts : (o p : Option Str) → i.left y x ≡ o → i.left x y ≡ p → (y ≡ x → ⊥) → Meant y x (both_left o p)
      lefts (Some y') (Some x') e f n = (e, f)
      lefts (Some y') None e f n = n
      lefts None p e f n = n

      go : (b : Bool) → bytes_eq y x ≡ b → Meant y x (elim b as (λ _. Met) [ true ↦ same | false ↦ both_left (i.left y x) (i.left x y) ])
      go true e = (bytes_eq-Decides y x).0 e
      go false e = lefts (i.left y x) (i.left x y) refl refl (λ p. true≢false (sym ((bytes_eq-Decides y x).1 p) ∙ e))

  -- what each outcome of carrying says
  abbrev pub Came : Str → List Str → Carried → Type 0
  Came y xs clash = Unit {0}
  Came y xs (gone remains) = Carries i y xs None remains
  Came y xs (kept rest remains) = Carries i y xs (Some rest) remains

  pub carry_means : (y : Str) (xs : List Str) → Came y xs (carry i y xs)
  unfolding carry
  carry_means y [] = through
  carry_means y (x ∷ xs) = go (meet i y x) (meet_means y x) (λ y'. carry_means y' xs)
    where
      on : (y' x' : Str) → i.left y x ≡ Some y' → i.left x y ≡ Some x' → (c : Carried) → Came y' xs c → Came y (x ∷ xs) (in_front x' c)
      on y' x' e f clash r = tt
      on y' x' e f (gone remains) r = past e f r
      on y' x' e f (kept rest remains) r = past e f r

      go : (m : Met) → Meant y x m → ((y' : Str) → Came y' xs (carry i y' xs)) → Came y (x ∷ xs) (elim m as (λ _. Carried) [ same ↦ gone xs | passes y' x' ↦ in_front x' (carry i y' xs) | hits ↦ clash ])
      go same e h = meets e
      go (passes y' x') (e, f) h = on y' x' e f (carry i y' xs) (h y')
      go hits n h = tt

  -- so the relation holds of what carry answers
  pub carry_gone : (y : Str) (xs remains : List Str) → carry i y xs ≡ gone remains → Carries i y xs None remains
  carry_gone y xs remains e = subst (Came y xs) e (carry_means y xs)

  pub carry_kept : (y : Str) (xs : List Str) (rest : Str) (remains : List Str) → carry i y xs ≡ kept rest remains → Carries i y xs (Some rest) remains
  carry_kept y xs rest remains e = subst (Came y xs) e (carry_means y xs)

  -- carrying past a step, as it computes
  pub carry_same : (y x : Str) (xs : List Str) → meet i y x ≡ same → carry i y (x ∷ xs) ≡ gone xs
  unfolding carry
  carry_same y x xs e = rw (e, carry)

  pub carry_passes : (y x y' x' : Str) (xs : List Str) → meet i y x ≡ passes y' x' → carry i y (x ∷ xs) ≡ in_front x' (carry i y' xs)
  unfolding carry
  carry_passes y x y' x' xs e = rw (e, carry)

  pub carry_hits : (y x : Str) (xs : List Str) → meet i y x ≡ hits → carry i y (x ∷ xs) ≡ clash
  unfolding carry
  carry_hits y x xs e = rw (e, carry)

  pub meet_same : (y x : Str) → y ≡ x → meet i y x ≡ same
  unfolding meet
  meet_same y x e = rw ((bytes_eq-Decides y x).1 e, meet)

  pub meet_apart : (y x : Str) → (y ≡ x → ⊥) → meet i y x ≡ both_left (i.left y x) (i.left x y)
  unfolding meet
  meet_apart y x n = elim (cases_Bool (bytes_eq y x)) [ inl e ↦ absurd (n ((bytes_eq-Decides y x).0 e)) | inr e ↦ rw (e, meet) ]

-- what carry answers where the relation holds
abbrev pub carried : Option Str → List Str → Carried
carried None remains = gone remains
carried (Some rest) remains = kept rest remains

in_front_carried : (x : Str) (rest : Option Str) (remains : List Str) → in_front x (carried rest remains) ≡ carried rest (x ∷ remains)
in_front_carried x None remains = refl
in_front_carried x (Some y) remains = refl

module _ {t : Transitions} {i : Independence} (laws : Laws t i) where
  -- independent steps are not the same
  pub independent_apart : (y x y' : Str) → i.left y x ≡ Some y' → y ≡ x → ⊥
  independent_apart y x y' e p = some_not_none y' (sym e ∙ ap (λ z. i.left z x) p ∙ laws.irreflexive x)

  pub meet_passes : (y x y' x' : Str) → i.left y x ≡ Some y' → i.left x y ≡ Some x' → meet i y x ≡ passes y' x'
  meet_passes y x y' x' e f = meet_apart i y x (independent_apart y x y' e) ∙ ap₂ both_left e f

  pub carry_answers : {y : Str} {xs : List Str} {rest : Option Str} {remains : List Str} → Carries i y xs rest remains → carry i y xs ≡ carried rest remains
  unfolding carry
  carry_answers through = refl
  carry_answers {y} (meets {x = x} {xs = xs} e) = carry_same i y x xs (meet_same i y x e)
  carry_answers {y} (past {x = x} {y' = y'} {x' = x'} {xs = xs} {rest = rest} {remains = remains} e f c) =
      carry_passes i y x y' x' xs (meet_passes y x y' x' e f) ∙ ap (in_front x') (carry_answers c) ∙ in_front_carried x' rest remains

-- what is left of a step, as a list
abbrev pub listed : Option Str → List Str
listed None = []
listed (Some y) = y ∷ []

module _ {i : Independence} where
  -- the list and then what is left of y are y and then what remains of the list, up to exchanges
  pub carries_exchanged : {y : Str} {xs : List Str} {rest : Option Str} {remains : List Str} → Carries i y xs rest remains → Exchanged i (xs ++ listed rest) (y ∷ remains)
  carries_exchanged through = none
  carries_exchanged {y} (meets {x = x} {xs = xs} e) = exchanged_refl (rw (append-nil, e))
  carries_exchanged (past {x = x} e f c) = exchanged_trans (exchanged_cons x (carries_exchanged c)) (exchanged_one (here f e))

  -- carried through a list and then another, it goes through the first, and what is left of it through the other
  pub carries_split : (xs ys : List Str) {y : Str} {rest : Option Str} {remains : List Str} → Carries i y (xs ++ ys) rest remains → (between : Option Str) × (front back : List Str) × Carries i y xs between front × (remains ≡ front ++ back) × Exchanged i (ys ++ listed rest) (listed between ++ back)
  carries_split [] ys {y} {remains = remains} c = (Some y, [], remains, through, refl, carries_exchanged c)
  carries_split (x ∷ xs) ys (meets e) = (None, xs, ys, meets e, refl, exchanged_refl (append-nil ys))
  carries_split (x ∷ xs) ys (past {x' = x'} e f c) =
      let s = carries_split xs ys c in
      (s.0, x' ∷ s.1, s.2, past e f s.3, ap (λ zs. x' ∷ zs) s.4, s.5)

module _ {t : Transitions} {i : Independence} (laws : Laws t i) where
  -- a step that is possible at the start of a run: what is left of it is possible at the end, and what remains of the run after the step, to one end
  pub carries_runs : {y : Str} {xs : List Str} {rest : Option Str} {remains : List Str} {a b c : Str} → Carries i y xs rest remains → Run t a xs b → t.next a y ≡ Ok c → (d : Str) × Run t b (listed rest) d × Run t c remains d
  carries_runs {y} {a = a} {c = c} through (stays s) n = let state = (laws.leads a y c n).2 in (c, goes n (stays state), stays state)
  carries_runs {b = b} (meets {xs = xs} e) (goes f r) n = (b, stays (run_end_state laws r), subst (λ s. Run t s xs b) (cc) r)
  carries_runs {y} {a = a} {c = c} (past {x = x} {y' = y'} {x' = x'} e f k) (goes {b = b} g r) n =
      let square = laws.diamond a b c x y x' y' g n f e in
      let end = carries_runs k r square.1 in
      (end.0, end.1, goes square.2 end.2)
