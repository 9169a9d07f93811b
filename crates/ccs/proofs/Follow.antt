-- The term that follows is the one that the transition rules give, and the place told is that of the first node that
-- does not fit.
-- By induction on the proof: its first node fits a term of one shape, which the term is, or the body that it calls. The
-- rule for the node goes around what its parts do, and a part's misfit stands so many bytes further on.
use Rattle.std.proofs.Common.{◌≡◌, ℕ, suc, ◌+◌, ◌<◌, true, false, cond, length, Some, None, Ok, Err, Result, nat_eq, sym, refl, ap, ap₂, ◌∙◌, subst, inl, inr, ◌⊎◌, length-append, arith}
use Rattle.std.proofs.lemmas.Bool.{eqb-true, eq-eqb}
use Rattle.ccs.specs.Syntax.{Term, Proof}
use Rattle.ccs.specs.Syntax.Term.{nil, prefix, par, sum, restrict, call}
use Rattle.ccs.specs.Syntax.Proof.{act, on_left, on_right, both, choose_left, choose_right, under}
use Rattle.ccs.specs.Spelling.{proof_bytes}
use Rattle.ccs.specs.First.{First}
use Rattle.ccs.specs.Moves.{Moves}
use Rattle.ccs.specs.Moves.Moves.{acts, left_moves, right_moves, both_move, left_chosen, right_chosen, moves_under, unfolds}
use Rattle.ccs.specs.Follow.{Suits, plain, MisfitAt, unfold_call, on_prefix, on_par, on_sum, on_restrict, around, both_sides_go, follow}
use Rattle.ccs.specs.Follow.Suits.{action, left_side, right_side, both_sides, left_branch, right_branch, restriction}
use Rattle.ccs.specs.Follow.MisfitAt.{here, on_the_left, on_the_right, in_first, in_second, in_left_branch, in_right_branch, in_restriction, in_body}
use Rattle.ccs.proofs.Cases.{cond_case}
use Rattle.ccs.proofs.First.{first_in_first, first_of_two, at_start, one_further, two_further}

-- which terms a proof's first node fits
left_is_par : {p : Term} {t : Proof} → Suits p (on_left t) → (q r : Term) × (p ≡ par q r)
left_is_par left_side = (_, _, refl)

right_is_par : {p : Term} {t : Proof} → Suits p (on_right t) → (q r : Term) × (p ≡ par q r)
right_is_par right_side = (_, _, refl)

both_is_par : {p : Term} {t u : Proof} → Suits p (both t u) → (q r : Term) × (p ≡ par q r)
both_is_par both_sides = (_, _, refl)

left_is_sum : {p : Term} {t : Proof} → Suits p (choose_left t) → (q r : Term) × (p ≡ sum q r)
left_is_sum left_branch = (_, _, refl)

right_is_sum : {p : Term} {t : Proof} → Suits p (choose_right t) → (q r : Term) × (p ≡ sum q r)
right_is_sum right_branch = (_, _, refl)

-- what each answer means
abbrev pub Means : (ℕ → Term) → Term → Proof → Result Term ℕ → Type 0
Means body p t (Ok q) = Moves body p t q
Means body p t (Err k) = First (MisfitAt body p t) k

module _ {body : ℕ → Term} where
  -- a proof leads to one term, and where it leads to one, every node fits
  pub one_end : {p q r : Term} {t : Proof} → Moves body p t q → Moves body p t r → q ≡ r
  one_end (acts e) (acts f) = refl
  one_end (left_moves m) (left_moves n) = ap₂ par (one_end m n) refl
  one_end (right_moves m) (right_moves n) = ap₂ par refl (one_end m n)
  one_end (both_move m k) (both_move n l) = ap₂ par (one_end m n) (one_end k l)
  one_end (left_chosen m) (left_chosen n) = one_end m n
  one_end (right_chosen m) (right_chosen n) = one_end m n
  one_end (moves_under e m) (moves_under f n) = ap₂ restrict refl (one_end m n)
  one_end (unfolds m) (unfolds n) = one_end m n

  suits : {p q : Term} {t : Proof} → Moves body p t q → plain p ≡ true → Suits p t
  suits (acts e) f = action e
  suits (left_moves m) f = left_side
  suits (right_moves m) f = right_side
  suits (both_move m n) f = both_sides
  suits (left_chosen m) f = left_branch
  suits (right_chosen m) f = right_branch
  suits (moves_under e m) f = restriction e
  suits (unfolds m) f = absurd (cc f)

  pub all_fit : {p q : Term} {t : Proof} {k : ℕ} → MisfitAt body p t k → Moves body p t q → ⊥
  all_fit (here e n) m = n (suits m e)
  all_fit (on_the_left i) (left_moves m) = all_fit i m
  all_fit (on_the_right i) (right_moves m) = all_fit i m
  all_fit (in_first i) (both_move m n) = all_fit i m
  all_fit (in_second i e) (both_move m n) = all_fit i n
  all_fit (in_left_branch i) (left_chosen m) = all_fit i m
  all_fit (in_right_branch i) (right_chosen m) = all_fit i m
  all_fit (in_restriction e i) (moves_under f m) = all_fit i m
  all_fit (in_body i) (unfolds m) = all_fit i m

  within : {p : Term} {t : Proof} {k : ℕ} → MisfitAt body p t k → k < length (proof_bytes t)
  unfolding proof_bytes
  within (here {t = t} e n) = some_node t
    where
      some_node : (t : Proof) → 0 < length (proof_bytes t)
      some_node (act a) = omega arith
      some_node (on_left t) = omega arith
      some_node (on_right t) = omega arith
      some_node (both t u) = omega arith
      some_node (choose_left t) = omega arith
      some_node (choose_right t) = omega arith
      some_node (under n t) = omega arith
  within (on_the_left i) = omega (arith, within i)
  within (on_the_right i) = omega (arith, within i)
  within (in_first {t = t} {u = u} i) = omega (arith, within i, length-append (proof_bytes t) (proof_bytes u))
  within (in_second {t = t} {u = u} i e) = omega (arith, within i, e, length-append (proof_bytes t) (proof_bytes u))
  within (in_left_branch i) = omega (arith, within i)
  within (in_right_branch i) = omega (arith, within i)
  within (in_restriction e i) = omega (arith, within i)
  within (in_body i) = within i

  -- what a rule's conclusion says of its premise
  from_left : {p q : Term} {t : Proof} (j : ℕ) → MisfitAt body (par p q) (on_left t) j
      → (k : ℕ) × (j ≡ 1 + k) × MisfitAt body p t k
  from_left j (here e n) = absurd (n left_side)
  from_left j (on_the_left i) = (_, omega arith, i)

  from_right : {p q : Term} {t : Proof} (j : ℕ) → MisfitAt body (par p q) (on_right t) j
      → (k : ℕ) × (j ≡ 1 + k) × MisfitAt body q t k
  from_right j (here e n) = absurd (n right_side)
  from_right j (on_the_right i) = (_, omega arith, i)

  from_both : {p q : Term} {t u : Proof} (j : ℕ) → MisfitAt body (par p q) (both t u) j
      → ((k : ℕ) × (j ≡ 1 + k) × MisfitAt body p t k)
      ⊎ ((k : ℕ) × (j ≡ suc (length (proof_bytes t)) + k) × MisfitAt body q u k)
  from_both j (here e n) = absurd (n both_sides)
  from_both j (in_first i) = inl (_, omega arith, i)
  from_both j (in_second i f) = inr (_, omega (arith, f), i)

  from_left_branch : {p q : Term} {t : Proof} (j : ℕ) → MisfitAt body (sum p q) (choose_left t) j
      → (k : ℕ) × (j ≡ 1 + k) × MisfitAt body p t k
  from_left_branch j (here e n) = absurd (n left_branch)
  from_left_branch j (in_left_branch i) = (_, omega arith, i)

  from_right_branch : {p q : Term} {t : Proof} (j : ℕ) → MisfitAt body (sum p q) (choose_right t) j
      → (k : ℕ) × (j ≡ 1 + k) × MisfitAt body q t k
  from_right_branch j (here e n) = absurd (n right_branch)
  from_right_branch j (in_right_branch i) = (_, omega arith, i)

  from_restriction : {n m : ℕ} {p : Term} {t : Proof} → n ≡ m → (j : ℕ) → MisfitAt body (restrict n p) (under m t) j
      → (k : ℕ) × (j ≡ 2 + k) × MisfitAt body p t k
  from_restriction e j (here f n) = absurd (n (restriction e))
  from_restriction e j (in_restriction f i) = (_, omega arith, i)

  -- a node that does not fit is the first
  pub at_once : {p : Term} {t : Proof} → plain p ≡ true → (Suits p t → ⊥) → First (MisfitAt body p t) 0
  at_once {p} {t} e n = at_start (MisfitAt body p t) (here e n)

  -- around what a part becomes, behind a byte or two of the node's own
  around_part : (p : Term) (t : Proof) (q : Term) (u : Proof) (f : Term → Term)
      → ((p' : Term) → Moves body p t p' → Moves body q u (f p'))
      → ((k : ℕ) → MisfitAt body p t k → MisfitAt body q u (suc k))
      → ((j : ℕ) → MisfitAt body q u j → (k : ℕ) × (j ≡ 1 + k) × MisfitAt body p t k)
      → (r : Result Term ℕ) → Means body p t r → Means body q u (around 1 f r)
  around_part p t q u f go up down (Ok p') m = go p' m
  around_part p t q u f go up down (Err k) h = one_further (MisfitAt body p t) (MisfitAt body q u) up down (Some k) h

  around_named : (p : Term) (t : Proof) (q : Term) (u : Proof) (f : Term → Term)
      → ((p' : Term) → Moves body p t p' → Moves body q u (f p'))
      → ((k : ℕ) → MisfitAt body p t k → MisfitAt body q u (suc (suc k)))
      → ((j : ℕ) → MisfitAt body q u j → (k : ℕ) × (j ≡ 2 + k) × MisfitAt body p t k)
      → (r : Result Term ℕ) → Means body p t r → Means body q u (around 2 f r)
  around_named p t q u f go up down (Ok p') m = go p' m
  around_named p t q u f go up down (Err k) h = two_further (MisfitAt body p t) (MisfitAt body q u) up down (Some k) h

module _ (body : ℕ → Term) where
  -- each rule, around what its parts do
  both_go : (p q : Term) (t u : Proof) (r s : Result Term ℕ)
      → Means body p t r → Means body q u s
      → Means body (par p q) (both t u) (both_sides_go (length (proof_bytes t)) r s)
  both_go p q t u (Ok p') (Ok q') m n = both_move m n
  both_go p q t u (Ok p') (Err k) m h =
      first_of_two (MisfitAt body p t) (MisfitAt body q u) (MisfitAt body (par p q) (both t u))
      (length (proof_bytes t)) (λ k i. within i) (λ k i. in_first i) (λ k j f i. in_second i f) from_both
      None (Some k) (λ j i. all_fit i m) h
  both_go p q t u (Err k) s h n =
      first_in_first (MisfitAt body p t) (MisfitAt body q u) (MisfitAt body (par p q) (both t u))
      (length (proof_bytes t)) (λ k i. within i) (λ k i. in_first i) from_both k h

  left_goes : (p q : Term) (t : Proof) (r : Result Term ℕ) → Means body p t r
      → Means body (par p q) (on_left t) (around 1 (λ p'. par p' q) r)
  left_goes p q t =
      around_part p t (par p q) (on_left t) (λ p'. par p' q) (λ p' m. left_moves m) (λ k i. on_the_left i) from_left

  right_goes : (p q : Term) (t : Proof) (r : Result Term ℕ) → Means body q t r
      → Means body (par p q) (on_right t) (around 1 (λ q'. par p q') r)
  right_goes p q t =
      around_part q t (par p q) (on_right t) (λ q'. par p q') (λ q' m. right_moves m) (λ k i. on_the_right i) from_right

  left_is_chosen : (p q : Term) (t : Proof) (r : Result Term ℕ) → Means body p t r
      → Means body (sum p q) (choose_left t) (around 1 (λ p'. p') r)
  left_is_chosen p q t =
      around_part p t (sum p q) (choose_left t) (λ p'. p') (λ p' m. left_chosen m)
      (λ k i. in_left_branch i) from_left_branch

  right_is_chosen : (p q : Term) (t : Proof) (r : Result Term ℕ) → Means body q t r
      → Means body (sum p q) (choose_right t) (around 1 (λ q'. q') r)
  right_is_chosen p q t =
      around_part q t (sum p q) (choose_right t) (λ q'. q') (λ q' m. right_chosen m)
      (λ k i. in_right_branch i) from_right_branch

  goes_under : (n m : ℕ) → n ≡ m → (p : Term) (t : Proof) (r : Result Term ℕ) → Means body p t r
      → Means body (restrict n p) (under m t) (around 2 (restrict n) r)
  goes_under n m e p t =
      around_named p t (restrict n p) (under m t) (restrict n) (λ p' g. moves_under e g)
      (λ k i. in_restriction e i) (from_restriction e)

  -- of a term that is no call, by the proof's first node
  by_prefix : (b : ℕ) (p : Term) → plain p ≡ true
      → Means body p (act b) (on_prefix p (λ a q. cond (nat_eq a b) (Ok q) (Err 0)))
  by_prefix b nil e = at_once e (λ s. elim s [ ])
  by_prefix b (prefix a p) e =
      cond_case (Means body (prefix a p) (act b)) (nat_eq a b) _ _
      (λ f. acts (eqb-true a b f)) (λ f. at_once e (λ s. differ s f))
    where
      differ : Suits (prefix a p) (act b) → nat_eq a b ≡ false → ⊥
      differ (action g) f = cc (sym f ∙ eq-eqb a b g)
  by_prefix b (par p q) e = at_once e (λ s. elim s [ ])
  by_prefix b (sum p q) e = at_once e (λ s. elim s [ ])
  by_prefix b (restrict n p) e = at_once e (λ s. elim s [ ])
  by_prefix b (call d) e = absurd (cc e)

  by_par : (t : Proof) (f : Term → Term → Result Term ℕ)
      → ((p q : Term) → Means body (par p q) t (f p q))
      → ((p : Term) → Suits p t → (q r : Term) × (p ≡ par q r))
      → (p : Term) → plain p ≡ true → Means body p t (on_par p f)
  by_par t f h n nil e = at_once e (λ s. cc (n nil s).2)
  by_par t f h n (prefix a p) e = at_once e (λ s. cc (n (prefix a p) s).2)
  by_par t f h n (par p q) e = h p q
  by_par t f h n (sum p q) e = at_once e (λ s. cc (n (sum p q) s).2)
  by_par t f h n (restrict m p) e = at_once e (λ s. cc (n (restrict m p) s).2)
  by_par t f h n (call d) e = absurd (cc e)

  by_sum : (t : Proof) (f : Term → Term → Result Term ℕ)
      → ((p q : Term) → Means body (sum p q) t (f p q))
      → ((p : Term) → Suits p t → (q r : Term) × (p ≡ sum q r))
      → (p : Term) → plain p ≡ true → Means body p t (on_sum p f)
  by_sum t f h n nil e = at_once e (λ s. cc (n nil s).2)
  by_sum t f h n (prefix a p) e = at_once e (λ s. cc (n (prefix a p) s).2)
  by_sum t f h n (par p q) e = at_once e (λ s. cc (n (par p q) s).2)
  by_sum t f h n (sum p q) e = h p q
  by_sum t f h n (restrict m p) e = at_once e (λ s. cc (n (restrict m p) s).2)
  by_sum t f h n (call d) e = absurd (cc e)

  by_restrict : (m : ℕ) (t : Proof) → ((p : Term) → Means body p t (follow body p t))
      → (p : Term) → plain p ≡ true
      → Means body p (under m t)
      (on_restrict p (λ n q. cond (nat_eq n m) (around 2 (restrict n) (follow body q t)) (Err 0)))
  by_restrict m t h nil e = at_once e (λ s. elim s [ ])
  by_restrict m t h (prefix a p) e = at_once e (λ s. elim s [ ])
  by_restrict m t h (par p q) e = at_once e (λ s. elim s [ ])
  by_restrict m t h (sum p q) e = at_once e (λ s. elim s [ ])
  by_restrict m t h (restrict n p) e =
      cond_case (Means body (restrict n p) (under m t)) (nat_eq n m) _ _
      (λ f. goes_under n m (eqb-true n m f) p t (follow body p t) (h p)) (λ f. at_once e (λ s. differ s f))
    where
      differ : Suits (restrict n p) (under m t) → nat_eq n m ≡ false → ⊥
      differ (restriction g) f = cc (sym f ∙ eq-eqb n m g)
  by_restrict m t h (call d) e = absurd (cc e)

  -- what follows a call follows the body
  through_call : (p : Term) (t : Proof) (r : Result Term ℕ) → Means body (unfold_call body p) t r
      → Means body p t r
  through_call nil t r h = h
  through_call (prefix a p) t r h = h
  through_call (par p q) t r h = h
  through_call (sum p q) t r h = h
  through_call (restrict n p) t r h = h
  through_call (call d) t (Ok q) h = unfolds h
  through_call (call d) t (Err k) h = record { holds = in_body h.holds; least = λ j l i. h.least j l (from_body i) }
    where
      from_body : {j : ℕ} → MisfitAt body (call d) t j → MisfitAt body (body d) t j
      from_body (here e n) = absurd (cc e)
      from_body (in_body i) = i

  module _ (bodies : (d : ℕ) → plain (body d) ≡ true) where
    unfolded_plain : (p : Term) → plain (unfold_call body p) ≡ true
    unfolded_plain nil = refl
    unfolded_plain (prefix a p) = refl
    unfolded_plain (par p q) = refl
    unfolded_plain (sum p q) = refl
    unfolded_plain (restrict n p) = refl
    unfolded_plain (call d) = bodies d

    on_sides : (t : Proof) (f : Term → Term → Result Term ℕ)
        → ((p q : Term) → Means body (par p q) t (f p q))
        → ((p : Term) → Suits p t → (q r : Term) × (p ≡ par q r))
        → (p : Term) → Means body p t (on_par (unfold_call body p) f)
    on_sides t f h n p = through_call p t _ (by_par t f h n (unfold_call body p) (unfolded_plain p))

    on_branches : (t : Proof) (f : Term → Term → Result Term ℕ)
        → ((p q : Term) → Means body (sum p q) t (f p q))
        → ((p : Term) → Suits p t → (q r : Term) × (p ≡ sum q r))
        → (p : Term) → Means body p t (on_sum (unfold_call body p) f)
    on_branches t f h n p = through_call p t _ (by_sum t f h n (unfold_call body p) (unfolded_plain p))

    pub follow_means : (t : Proof) (p : Term) → Means body p t (follow body p t)
    unfolding follow
    follow_means (act b) p = through_call p (act b) _ (by_prefix b (unfold_call body p) (unfolded_plain p))
    follow_means (on_left t) p =
        on_sides (on_left t) _ (λ q r. left_goes q r t (follow body q t) (follow_means t q)) (λ q. left_is_par) p
    follow_means (on_right t) p =
        on_sides (on_right t) _ (λ q r. right_goes q r t (follow body r t) (follow_means t r)) (λ q. right_is_par) p
    follow_means (both t u) p =
        on_sides (both t u) _
        (λ q r. both_go q r t u (follow body q t) (follow body r u) (follow_means t q) (follow_means u r))
        (λ q. both_is_par) p
    follow_means (choose_left t) p =
        on_branches (choose_left t) _ (λ q r. left_is_chosen q r t (follow body q t) (follow_means t q))
        (λ q. left_is_sum) p
    follow_means (choose_right t) p =
        on_branches (choose_right t) _ (λ q r. right_is_chosen q r t (follow body r t) (follow_means t r))
        (λ q. right_is_sum) p
    follow_means (under m t) p =
        through_call p (under m t) _ (by_restrict m t (follow_means t) (unfold_call body p) (unfolded_plain p))

    pub follow_moves : (p : Term) (t : Proof) (q : Term) → follow body p t ≡ Ok q → Moves body p t q
    follow_moves p t q e = subst (Means body p t) e (follow_means t p)

    pub moves_follow : (p : Term) (t : Proof) (q : Term) → Moves body p t q → follow body p t ≡ Ok q
    moves_follow p t q m = go (follow body p t) (follow_means t p)
      where
        go : (r : Result Term ℕ) → Means body p t r → r ≡ Ok q
        go (Ok r) n = ap Ok (one_end n m)
        go (Err k) h = absurd (all_fit h.holds m)
