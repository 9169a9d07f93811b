-- Terms over sound definitions keep the laws of step systems, and follow the rules.
-- States and steps are read as the terms and proofs that they spell, and answers are spelled. So each law of strings
-- is the one of terms and proofs beneath it: `diamond`, `cube` and the like of proofs/After.
use Rattle.std.proofs.Common.{◌≡◌, ◌↔◌, ℕ, zero, suc, ◌≤◌, Bool, true, false, cond, List, [], ◌∷◌, length, Some, None, Ok, Err, Option, Result, is_ok, nat_le, sym, refl, ap, ◌∙◌, subst, arith}
use Rattle.std.proofs.lemmas.Bool.{leb-true, le-leb}
use Rattle.std.specs.Result.{result_err}
use Rattle.std.specs.Cmp.Derive.{both_true}
use Rattle.steps.specs.Meaning.{Str}
use Rattle.steps.specs.Laws.{Laws, state_limit, step_limit}
use Rattle.ccs.specs.Syntax.{Term, Proof}
use Rattle.ccs.specs.Label.{label, proper}
use Rattle.ccs.specs.Spelling.{term_bytes, proof_bytes, sound_term, sound_proof}
use Rattle.ccs.specs.Reading.{read_term, read_proof}
use Rattle.ccs.specs.Moves.{Moves}
use Rattle.ccs.specs.Moves.Moves.{acts, left_moves, right_moves, both_move, left_chosen, right_chosen, moves_under, unfolds}
use Rattle.ccs.specs.After.{After}
use Rattle.ccs.specs.Improper.{improper, or_else}
use Rattle.ccs.specs.Follow.{plain, MisfitAt, follow}
use Rattle.ccs.specs.Residual.{residual, origin}
use Rattle.ccs.specs.System.{body_of, sound_bodies, if_proper, proper_only, read_step, label_of, spelled_term, spelled_proof, go_on, of_both, past, improper_of, terms_transitions, terms_independence}
use Rattle.ccs.specs.Beginning.{IsTerm, IsStep}
use Rattle.ccs.specs.First.{First}
use Rattle.ccs.specs.ReadingLaws.{ReadTerms, ReadProofs, StatesAreTerms, StepsAreProper}
use Rattle.ccs.specs.FollowLaws.{Goes, NextByRules, MisfitsTold, LabelsShown}
use Rattle.ccs.specs.ResidualLaws.{Leaves, LeftByRules, BackUndoesLeft}
use Rattle.ccs.proofs.Cases.{both_of}
use Rattle.ccs.proofs.After.{after_sym, not_of_itself, diamond, possible_before, cube, before}
use Rattle.ccs.proofs.Residual.{residual_is, is_residual, origin_is, is_origin}
use Rattle.ccs.proofs.Kept.{label_kept, proper_kept, sound_kept, length_kept}
use Rattle.ccs.proofs.Improper.{none_is_proper, proper_is_none}
use Rattle.ccs.proofs.First.{first_is_one}
use Rattle.ccs.proofs.Limits.{no_place}
use Rattle.ccs.proofs.Follow.{Means, all_fit, follow_means, follow_moves, moves_follow}
use Rattle.ccs.proofs.TermReading.{read_is_term, term_is_read}
use Rattle.ccs.proofs.ProofReading.{read_is_proof, proof_is_read}

-- a step is read as the proper proof that it spells
pub record StepOf (x : Str) (t : Proof) : Type 0 where
  pub bytes : proof_bytes t ≡ x
  pub sound : sound_proof t ≡ true
  pub is_proper : proper t ≡ true

pub read_is_step : (x : Str) (t : Proof) → read_step x ≡ Ok t → StepOf x t
read_is_step x t e = go (read_proof x) refl e
  where
    on : (u : Proof) → read_proof x ≡ Ok u → (o : Option ℕ) → improper u ≡ o → if_proper u o ≡ Ok t → StepOf x t
    on u r None n f =
        let same : u ≡ t = cc f in
        let p = read_is_proof x u r in
        subst (StepOf x) same (record { bytes = p.0; sound = p.1; is_proper = none_is_proper u n })
    on u r (Some k) n f = absurd (cc f)

    go : (r : Result Proof ℕ) → read_proof x ≡ r → proper_only r ≡ Ok t → StepOf x t
    go (Ok u) r f = on u r (improper u) refl f
    go (Err k) r f = absurd (cc f)

pub step_is_read : (t : Proof) → sound_proof t ≡ true → proper t ≡ true → read_step (proof_bytes t) ≡ Ok t
step_is_read t s p = rw (proof_is_read t s, proper_is_none t p) refl

-- so is what is left of it, and what it is left of
pub left_is_read : {t u t' u' : Proof} (x : Str) → read_step x ≡ Ok t → After t u t' u'
    → read_step (proof_bytes t') ≡ Ok t'
left_is_read {t} {u} {t'} {u'} x r a =
    let s = read_is_step x t r in
    step_is_read t' (sound_kept a ∙ s.sound) (proper_kept a ∙ s.is_proper)

pub origin_is_read : {t u t' u' : Proof} (x : Str) → read_step x ≡ Ok t' → After t u t' u'
    → read_step (proof_bytes t) ≡ Ok t
origin_is_read {t} {u} {t'} {u'} x r a =
    let s = read_is_step x t' r in
    step_is_read t (sym (sound_kept a) ∙ s.sound) (sym (proper_kept a) ∙ s.is_proper)

-- what is asked of two steps is asked of their proofs
pub record OfProofs (f : Proof → Proof → Option Proof) (x y z : Str) : Type 0 where
  pub t : Proof
  pub u : Proof
  pub v : Proof
  pub first : read_step x ≡ Ok t
  pub second : read_step y ≡ Ok u
  pub answer : f t u ≡ Some v
  pub bytes : proof_bytes v ≡ z

of_proofs : (f : Proof → Proof → Option Proof) (x y z : Str) → of_both f (read_step x) (read_step y) ≡ Some z
    → OfProofs f x y z
of_proofs f x y z e = go (read_step x) (read_step y) refl refl e
  where
    on : (t u : Proof) → read_step x ≡ Ok t → read_step y ≡ Ok u → (o : Option Proof) → f t u ≡ o
        → spelled_proof o ≡ Some z → OfProofs f x y z
    on t u r s (Some v) g e = record { t = t; u = u; v = v; first = r; second = s; answer = g; bytes = cc e }
    on t u r s None g e = absurd (cc e)

    go : (r s : Result Proof ℕ) → read_step x ≡ r → read_step y ≡ s → of_both f r s ≡ Some z → OfProofs f x y z
    go (Ok t) (Ok u) r s e = on t u r s (f t u) refl e
    go (Ok t) (Err k) r s e = absurd (cc e)
    go (Err k) s' r s e = absurd (cc e)

-- independent steps, by their proofs
pub record LeftOf (x y z : Str) : Type 0 where
  pub t : Proof
  pub u : Proof
  pub t' : Proof
  pub u' : Proof
  pub first : read_step x ≡ Ok t
  pub second : read_step y ≡ Ok u
  pub after : After t u t' u'
  pub bytes : proof_bytes t' ≡ z

pub is_left : (x y z : Str) → terms_independence.left x y ≡ Some z → LeftOf x y z
is_left x y z e =
    let h = of_proofs residual x y z e in
    let a = is_residual h.t h.u h.v h.answer in
    record { t = h.t; u = h.u; t' = h.v; u' = a.0; first = h.first; second = h.second; after = a.1; bytes = h.bytes }

pub left_is : (x y : Str) (t u t' u' : Proof) → read_step x ≡ Ok t → read_step y ≡ Ok u → After t u t' u'
    → terms_independence.left x y ≡ Some (proof_bytes t')
left_is x y t u t' u' r s a = rw (r, s, residual_is t u t' u' a) refl

-- what a sound move leads to is sound
pub moves_sound : (n : ℕ) {body : ℕ → Term} → ((d : ℕ) → sound_term n (body d) ≡ true) → {p q : Term} {t : Proof}
    → Moves body p t q → sound_term n p ≡ true → sound_term n q ≡ true
unfolding sound_term
moves_sound n b (acts e) s = (both_of _ _ s).1
moves_sound n b (left_moves m) s = let c = both_of _ _ s in both_true (moves_sound n b m c.0) c.1
moves_sound n b (right_moves m) s = let c = both_of _ _ s in both_true c.0 (moves_sound n b m c.1)
moves_sound n b (both_move m k) s = let c = both_of _ _ s in both_true (moves_sound n b m c.0) (moves_sound n b k c.1)
moves_sound n b (left_chosen m) s = moves_sound n b m (both_of _ _ s).0
moves_sound n b (right_chosen m) s = moves_sound n b m (both_of _ _ s).1
moves_sound n b (moves_under e m) s = let c = both_of _ _ s in both_true c.0 (moves_sound n b m c.1)
moves_sound n b (unfolds m) s = moves_sound n b m (b _)

-- each body is sound, and there is nothing past the last
bodies : (n : ℕ) (ds : List Term) → sound_bodies n ds ≡ true → (d : ℕ)
    → (plain (body_of ds d) ≡ true) × (sound_term n (body_of ds d) ≡ true)
unfolding sound_bodies sound_term
bodies n [] e d = (refl, refl)
bodies n (p ∷ ds) e zero = both_of _ _ (both_of _ _ e).0
bodies n (p ∷ ds) e (suc d) = bodies n ds (both_of _ _ e).1 d

module _ (ds : List Term) (sound : sound_bodies (length ds) ds ≡ true) where
  -- what follows, by the rules
  pub record Follows (a x b : Str) : Type 0 where
    pub p : Term
    pub t : Proof
    pub q : Term
    pub state : read_term (length ds) a ≡ Ok p
    pub step : read_step x ≡ Ok t
    pub moves : Moves (body_of ds) p t q
    pub bytes : term_bytes q ≡ b

  plain_bodies : (d : ℕ) → plain (body_of ds d) ≡ true
  plain_bodies d = (bodies (length ds) ds sound d).0

  pub follows : (a x b : Str) → (terms_transitions ds).next a x ≡ Ok b → Follows a x b
  follows a x b e = go (read_term (length ds) a) (read_step x) refl refl e
    where
      on : (p : Term) (t : Proof) → read_term (length ds) a ≡ Ok p → read_step x ≡ Ok t → (r : Result Term ℕ)
          → follow (body_of ds) p t ≡ r → spelled_term r ≡ Ok b → Follows a x b
      on p t r s (Ok q) g e =
          let moves = follow_moves (body_of ds) plain_bodies p t q g in
          record { p = p; t = t; q = q; state = r; step = s; moves = moves; bytes = cc e }
      on p t r s (Err k) g e = absurd (cc e)

      go : (r : Result Term ℕ) (s : Result Proof ℕ) → read_term (length ds) a ≡ r → read_step x ≡ s
          → go_on ds r s ≡ Ok b → Follows a x b
      go (Ok p) (Ok t) r s e = on p t r s (follow (body_of ds) p t) refl e
      go (Ok p) (Err k) r s e = absurd (cc e)
      go (Err k) s' r s e = absurd (cc e)

  pub next_of : (a x : Str) (p q : Term) (t : Proof) → read_term (length ds) a ≡ Ok p → read_step x ≡ Ok t
      → Moves (body_of ds) p t q → (terms_transitions ds).next a x ≡ Ok (term_bytes q)
  next_of a x p q t r s m = rw (r, s, moves_follow (body_of ds) plain_bodies p t q m) refl

  -- the state that follows is read as the term that the rules give
  pub end_is_read : (a : Str) (p q : Term) (t : Proof) → read_term (length ds) a ≡ Ok p → Moves (body_of ds) p t q
      → read_term (length ds) (term_bytes q) ≡ Ok q
  end_is_read a p q t r m =
      term_is_read (length ds) q
      (moves_sound (length ds) (λ d. (bodies (length ds) ds sound d).1) m (read_is_term (length ds) a p r).1)

  -- the laws
  leads : (a x b : Str) → (terms_transitions ds).next a x ≡ Ok b
      → ((terms_transitions ds).state a ≡ true) × ((terms_transitions ds).step x ≡ true)
      × ((terms_transitions ds).state b ≡ true)
  leads a x b e =
      let f = follows a x b e in
      let end = ap (read_term (length ds)) (sym f.bytes) ∙ end_is_read a f.p f.q f.t f.state f.moves in
      (ap is_ok f.state, ap is_ok f.step, ap is_ok end)

  diamond_kept : (a b c x y x' y' : Str) → (terms_transitions ds).next a x ≡ Ok b
      → (terms_transitions ds).next a y ≡ Ok c → terms_independence.left x y ≡ Some x'
      → terms_independence.left y x ≡ Some y'
      → (d : Str) × ((terms_transitions ds).next b y' ≡ Ok d) × ((terms_transitions ds).next c x' ≡ Ok d)
  diamond_kept a b c x y x' y' e f g h =
      let m = follows a x b e in
      let n = follows a y c f in
      let l = is_left x y x' g in
      let k = is_left y x y' h in
      let same_p : n.p ≡ m.p = cc (m.state, n.state) in
      let same_t : m.t ≡ l.t = cc (m.step, l.first) in
      let same_u : n.t ≡ l.u = cc (n.step, l.second) in
      let moves_x : Moves (body_of ds) m.p l.t m.q = subst (λ t. Moves (body_of ds) m.p t m.q) same_t m.moves in
      let by_u : Moves (body_of ds) n.p l.u n.q = subst (λ t. Moves (body_of ds) n.p t n.q) same_u n.moves in
      let moves_y : Moves (body_of ds) m.p l.u n.q = subst (λ p. Moves (body_of ds) p l.u n.q) same_p by_u in
      let d = diamond l.after moves_x moves_y in
      let y_after = left_is y x l.u l.t l.u' l.t' l.second l.first (after_sym l.after) in
      let left_y : proof_bytes l.u' ≡ y' = cc (sym y_after ∙ h) in
      let after_x : read_step y' ≡ Ok l.u' = ap read_step (sym left_y) ∙ left_is_read y l.second (after_sym l.after) in
      let after_y : read_step x' ≡ Ok l.t' = ap read_step (sym l.bytes) ∙ left_is_read x l.first l.after in
      let state_x : read_term (length ds) b ≡ Ok m.q =
      ap (read_term (length ds)) (sym m.bytes) ∙ end_is_read a m.p m.q m.t m.state m.moves in
      let state_y : read_term (length ds) c ≡ Ok n.q =
      ap (read_term (length ds)) (sym n.bytes) ∙ end_is_read a n.p n.q n.t n.state n.moves in
      (term_bytes d.0, next_of b y' m.q d.0 l.u' state_x after_x d.1, next_of c x' n.q d.0 l.t' state_y after_y d.2)

  origin_possible : (a b c x y z : Str) → (terms_transitions ds).next a x ≡ Ok b
      → (terms_transitions ds).next b z ≡ Ok c → terms_independence.left y x ≡ Some z
      → (d : Str) × ((terms_transitions ds).next a y ≡ Ok d)
  origin_possible a b c x y z e f g =
      let m = follows a x b e in
      let n = follows b z c f in
      let l = is_left y x z g in
      let same_u : m.t ≡ l.u = cc (m.step, l.second) in
      let after_x : read_step z ≡ Ok l.t' = ap read_step (sym l.bytes) ∙ left_is_read y l.first l.after in
      let same_t : n.t ≡ l.t' = cc (n.step, after_x) in
      let state_x : read_term (length ds) b ≡ Ok m.q =
      ap (read_term (length ds)) (sym m.bytes) ∙ end_is_read a m.p m.q m.t m.state m.moves in
      let same_q : n.p ≡ m.q = cc (n.state, state_x) in
      let moves_x : Moves (body_of ds) m.p l.u m.q = subst (λ t. Moves (body_of ds) m.p t m.q) same_u m.moves in
      let by_t : Moves (body_of ds) n.p l.t' n.q = subst (λ t. Moves (body_of ds) n.p t n.q) same_t n.moves in
      let moves_z : Moves (body_of ds) m.q l.t' n.q = subst (λ p. Moves (body_of ds) p l.t' n.q) same_q by_t in
      let d = possible_before l.after moves_x moves_z in
      (term_bytes d.0, next_of a y m.p d.0 l.t m.state l.first d.1)

-- of the steps alone
between_steps : (x y z : Str) → terms_independence.left x y ≡ Some z → is_ok (read_step x) ≡ true
between_steps x y z e = ap is_ok (is_left x y z e).first

symmetric : (x y z : Str) → terms_independence.left x y ≡ Some z → (w : Str) × (terms_independence.left y x ≡ Some w)
symmetric x y z e =
    let l = is_left x y z e in
    (proof_bytes l.u', left_is y x l.u l.t l.u' l.t' l.second l.first (after_sym l.after))

irreflexive : (x : Str) → terms_independence.left x x ≡ None
irreflexive x = go (terms_independence.left x x) refl
  where
    go : (o : Option Str) → terms_independence.left x x ≡ o → terms_independence.left x x ≡ None
    go None e = e
    go (Some z) e = let l = is_left x x z e in absurd (not_of_itself l.after (cc (l.first, l.second)))

left_step : (x y z : Str) → terms_independence.left x y ≡ Some z → is_ok (read_step z) ≡ true
left_step x y z e = let l = is_left x y z e in ap is_ok (ap read_step (sym l.bytes) ∙ left_is_read x l.first l.after)

-- a step's label is its proof's
label_is : (x : Str) (t : Proof) → StepOf x t → label_of (read_proof x) ≡ record { action = label t }
label_is x t s = ap label_of (ap read_proof (sym s.bytes) ∙ proof_is_read t s.sound)

left_label : (x y z : Str) → terms_independence.left x y ≡ Some z → label_of (read_proof z) ≡ label_of (read_proof x)
left_label x y z e =
    let l = is_left x y z e in
    let after = read_is_step z l.t' (ap read_step (sym l.bytes) ∙ left_is_read x l.first l.after) in
    label_is z l.t' after ∙ ap (λ a. record { action = a }) (label_kept l.after)
    ∙ sym (label_is x l.t (read_is_step x l.t l.first))

left_length : (x y z : Str) → terms_independence.left x y ≡ Some z → length z ≤ length x
left_length x y z e =
    let l = is_left x y z e in
    omega (arith, length_kept l.after, ap length l.bytes, ap length (read_is_step x l.t l.first).bytes)

origin_of : (x y z : Str) → (terms_independence.back x z ≡ Some y) ↔ (terms_independence.left y x ≡ Some z)
origin_of x y z = (there, back)
  where
    there : terms_independence.back x z ≡ Some y → terms_independence.left y x ≡ Some z
    there e =
        let h = of_proofs origin x z y e in
        let a = is_origin h.t h.u h.v h.answer in
        let read_y : read_step y ≡ Ok h.v = ap read_step (sym h.bytes) ∙ origin_is_read z h.second a.1 in
        left_is y x h.v h.t h.u a.0 read_y h.first a.1 ∙ ap Some (read_is_step z h.u h.second).bytes

    back : terms_independence.left y x ≡ Some z → terms_independence.back x z ≡ Some y
    back e =
        let l = is_left y x z e in
        let read_z : read_step z ≡ Ok l.t' = ap read_step (sym l.bytes) ∙ left_is_read y l.first l.after in
        rw (l.second, read_z, origin_is l.u l.t' l.t l.u' l.after) (ap Some (read_is_step y l.t l.first).bytes)

cube_kept : (x y w x' y' w' w'' : Str) → terms_independence.left y x ≡ Some y' → terms_independence.left w x ≡ Some w'
    → terms_independence.left x y ≡ Some x' → terms_independence.left w y ≡ Some w''
    → (v : Str) × (terms_independence.left w' y' ≡ Some v) × (terms_independence.left w'' x' ≡ Some v)
cube_kept x y w x' y' w' w'' e f g h =
    let a = is_left x y x' g in
    let b = is_left w x w' f in
    let c = is_left w y w'' h in
    let same_x : b.u ≡ a.t = cc (b.second, a.first) in
    let same_y : c.u ≡ a.u = cc (c.second, a.second) in
    let same_w : c.t ≡ b.t = cc (c.first, b.first) in
    let w_x : After b.t a.t b.t' b.u' = subst (λ u. After b.t u b.t' b.u') same_x b.after in
    let after_y : After c.t a.u c.t' c.u' = subst (λ u. After c.t u c.t' c.u') same_y c.after in
    let w_y : After b.t a.u c.t' c.u' = subst (λ t. After t a.u c.t' c.u') same_w after_y in
    let v = cube a.after (after_sym w_x) (after_sym w_y) in
    let read_x' : read_step x' ≡ Ok a.t' = ap read_step (sym a.bytes) ∙ left_is_read x a.first a.after in
    let y_after = left_is y x a.u a.t a.u' a.t' a.second a.first (after_sym a.after) in
    let bytes_y' : proof_bytes a.u' ≡ y' = cc (sym y_after ∙ e) in
    let read_y' : read_step y' ≡ Ok a.u' = ap read_step (sym bytes_y') ∙ left_is_read y a.second (after_sym a.after) in
    let read_w' : read_step w' ≡ Ok b.t' = ap read_step (sym b.bytes) ∙ left_is_read w b.first b.after in
    let read_w'' : read_step w'' ≡ Ok c.t' = ap read_step (sym c.bytes) ∙ left_is_read w c.first c.after in (
      proof_bytes v.0,
      left_is w' y' b.t' a.u' v.0 v.1.0 read_w' read_y' v.1.1,
      left_is w'' x' c.t' a.t' v.0 v.2.0 read_w'' read_x' v.2.1,
    )

independent_before : (x y w y' w' v : Str) → terms_independence.left y x ≡ Some y'
    → terms_independence.left w x ≡ Some w' → terms_independence.left y' w' ≡ Some v
    → (u : Str) × (terms_independence.left y w ≡ Some u)
independent_before x y w y' w' v e f g =
    let a = is_left y x y' e in
    let b = is_left w x w' f in
    let c = is_left y' w' v g in
    let same_x : b.u ≡ a.u = cc (b.second, a.second) in
    let read_y' : read_step y' ≡ Ok a.t' = ap read_step (sym a.bytes) ∙ left_is_read y a.first a.after in
    let read_w' : read_step w' ≡ Ok b.t' = ap read_step (sym b.bytes) ∙ left_is_read w b.first b.after in
    let same_y : c.t ≡ a.t' = cc (c.first, read_y') in
    let same_w : c.u ≡ b.t' = cc (c.second, read_w') in
    let w_x : After b.t a.u b.t' b.u' = subst (λ u. After b.t u b.t' b.u') same_x b.after in
    let after_w : After c.t b.t' c.t' c.u' = subst (λ u. After c.t u c.t' c.u') same_w c.after in
    let rests : After a.t' b.t' c.t' c.u' = subst (λ t. After t b.t' c.t' c.u') same_y after_w in
    let i = before a.after w_x rests in
    (proof_bytes i.0, left_is y w a.t b.t i.0 i.1 a.first b.first i.2)

-- a string is refused exactly where it is none, or too long
state_refusals : (n : ℕ) (s : Str)
    → (past state_limit s (result_err (read_term n s)) ≡ None)
    ↔ ((is_ok (read_term n s) ≡ true) × (length s ≤ state_limit))
state_refusals n s = no_place state_limit s (read_term n s)

step_refusals : (x : Str)
    → ((or_else (past step_limit x (result_err (read_proof x))) (improper_of (read_proof x)) ≡ None) × (false ≡ false))
    ↔ ((is_ok (read_step x) ≡ true) × (length x ≤ step_limit))
step_refusals x =
    (λ e. there (past step_limit x (result_err (read_proof x))) refl e.0, λ h. (back (read_proof x) refl h.0 h.1, refl))
  where
    proper_there : (r : Result Proof ℕ) → is_ok r ≡ true → improper_of r ≡ None → is_ok (proper_only r) ≡ true
    proper_there (Ok t) f e = rw e refl
    proper_there (Err k) f e = absurd (cc f)

    there : (o : Option ℕ) → past step_limit x (result_err (read_proof x)) ≡ o
        → or_else o (improper_of (read_proof x)) ≡ None
        → (is_ok (read_step x) ≡ true) × (length x ≤ step_limit)
    there (Some k) f e = absurd (cc e)
    there None f e = let h = (no_place step_limit x (read_proof x)).0 f in (proper_there (read_proof x) h.0 e, h.1)

    none : (t : Proof) (o : Option ℕ) → is_ok (if_proper t o) ≡ true → o ≡ None
    none t None f = refl
    none t (Some k) f = absurd (cc f)

    back : (r : Result Proof ℕ) → read_proof x ≡ r → is_ok (proper_only r) ≡ true → length x ≤ step_limit
        → or_else (past step_limit x (result_err (read_proof x))) (improper_of (read_proof x)) ≡ None
    back (Ok t) e f l = rw ((no_place step_limit x (read_proof x)).1 (ap is_ok e, l), e) (none t (improper t) f)
    back (Err k) e f l = absurd (cc f)

pub terms_laws : (ds : List Term) → sound_bodies (length ds) ds ≡ true → Laws (terms_transitions ds) terms_independence
terms_laws ds sound =
    record {
      state_refusals = state_refusals (length ds);
      step_refusals = step_refusals;
      leads = leads ds sound;
      between_steps = between_steps;
      symmetric = symmetric;
      irreflexive = irreflexive;
      diamond = diamond_kept ds sound;
      left_step = left_step;
      left_label = left_label;
      left_length = left_length;
      origin = origin_of;
      origin_possible = origin_possible ds sound;
      cube = cube_kept;
      independent_before = independent_before;
    }

-- what the meaning says, by the rules
pub states_are_terms : StatesAreTerms
states_are_terms ds s = (
  λ e. there (read_term (length ds) s) refl e,
  λ h. ap is_ok (ap (read_term (length ds)) (sym h.1) ∙ term_is_read (length ds) h.0 h.2),
)
  where
    there : (r : Result Term ℕ) → read_term (length ds) s ≡ r → is_ok r ≡ true → IsTerm (length ds) s
    there (Ok p) e f = let h = read_is_term (length ds) s p e in (p, h.0, h.1)
    there (Err k) e f = absurd (cc f)

pub steps_are_proper : StepsAreProper
steps_are_proper ds x = (
  λ e. there (read_step x) refl e,
  λ h. ap is_ok (ap read_step (sym h.1) ∙ step_is_read h.0 h.2 h.3),
)
  where
    there : (r : Result Proof ℕ) → read_step x ≡ r → is_ok r ≡ true → IsStep x
    there (Ok t) e f = let h = read_is_step x t e in (t, h.bytes, h.sound, h.is_proper)
    there (Err k) e f = absurd (cc f)

pub read_terms : ReadTerms
read_terms n s p = (read_is_term n s p, λ h. ap (read_term n) (sym h.0) ∙ term_is_read n p h.1)

pub read_proofs : ReadProofs
read_proofs s t = (read_is_proof s t, λ h. ap read_proof (sym h.0) ∙ proof_is_read t h.1)

pub next_by_rules : NextByRules
next_by_rules ds sound a x b = (there, back)
  where
    there : (terms_transitions ds).next a x ≡ Ok b → Goes ds a x b
    there e =
        let f = follows ds sound a x b e in
        let s = read_is_term (length ds) a f.p f.state in
        let h = read_is_step x f.t f.step in
        record {
          p = f.p;
          t = f.t;
          q = f.q;
          state = s.0;
          state_sound = s.1;
          step = h.bytes;
          step_sound = h.sound;
          is_proper = h.is_proper;
          moves = f.moves;
          end = f.bytes;
        }

    back : Goes ds a x b → (terms_transitions ds).next a x ≡ Ok b
    back g =
        let state = ap (read_term (length ds)) (sym g.state) ∙ term_is_read (length ds) g.p g.state_sound in
        let step = ap read_step (sym g.step) ∙ step_is_read g.t g.step_sound g.is_proper in
        next_of ds sound a x g.p g.q g.t state step g.moves ∙ ap Ok g.end

-- a step that is not possible leads nowhere, so the place told is that of the first node that does not fit
module _ (ds : List Term) (sound : sound_bodies (length ds) ds ≡ true)
    (p : Term) (sound_p : sound_term (length ds) p ≡ true)
    (t : Proof) (sound_t : sound_proof t ≡ true) (proper_t : proper t ≡ true) where
  next_is : (terms_transitions ds).next (term_bytes p) (proof_bytes t) ≡ spelled_term (follow (body_of ds) p t)
  next_is = rw (term_is_read (length ds) p sound_p, step_is_read t sound_t proper_t) refl

  misfit_there : (k : ℕ) (r : Result Term ℕ) → Means (body_of ds) p t r → spelled_term r ≡ Err k
      → First (MisfitAt (body_of ds) p t) k
  misfit_there k (Ok q) h e = absurd (cc e)
  misfit_there k (Err j) h e = let same : j ≡ k = cc e in subst (First (MisfitAt (body_of ds) p t)) same h

  misfit_back : (k : ℕ) (r : Result Term ℕ) → Means (body_of ds) p t r → First (MisfitAt (body_of ds) p t) k
      → spelled_term r ≡ Err k
  misfit_back k (Ok q) h f = absurd (all_fit f.holds h)
  misfit_back k (Err j) h f = ap Err (first_is_one (MisfitAt (body_of ds) p t) j k h f)

  follow_here : Means (body_of ds) p t (follow (body_of ds) p t)
  follow_here = follow_means (body_of ds) (plain_bodies ds sound) t p

  misfit_is : (k : ℕ) → ((terms_transitions ds).next (term_bytes p) (proof_bytes t) ≡ Err k)
      ↔ First (MisfitAt (body_of ds) p t) k
  misfit_is k = (
    λ e. misfit_there k (follow (body_of ds) p t) follow_here (sym next_is ∙ e),
    λ f. next_is ∙ misfit_back k (follow (body_of ds) p t) follow_here f,
  )

pub misfit_place : MisfitsTold
misfit_place = misfit_is

pub misfits_told : (ds : List Term) → sound_bodies (length ds) ds ≡ true
    → (p : Term) (t : Proof) (k : ℕ) → sound_term (length ds) p ≡ true → sound_proof t ≡ true → proper t ≡ true
    → (terms_transitions ds).next (term_bytes p) (proof_bytes t) ≡ Err k → First (MisfitAt (body_of ds) p t) k
misfits_told ds sound p t k sp st pr = (misfit_is ds sound p sp t st pr k).0

pub labels_shown : LabelsShown
labels_shown ds t s = ap label_of (proof_is_read t s)

pub left_by_rules : LeftByRules
left_by_rules x y z = (there, back)
  where
    there : terms_independence.left x y ≡ Some z → Leaves x y z
    there e =
        let l = is_left x y z e in
        let a = read_is_step x l.t l.first in
        let b = read_is_step y l.u l.second in
        record {
          t = l.t;
          u = l.u;
          t' = l.t';
          u' = l.u';
          first = a.bytes;
          first_sound = a.sound;
          first_proper = a.is_proper;
          second = b.bytes;
          second_sound = b.sound;
          second_proper = b.is_proper;
          after = l.after;
          rest = l.bytes;
        }

    back : Leaves x y z → terms_independence.left x y ≡ Some z
    back l =
        let first = ap read_step (sym l.first) ∙ step_is_read l.t l.first_sound l.first_proper in
        let second = ap read_step (sym l.second) ∙ step_is_read l.u l.second_sound l.second_proper in
        left_is x y l.t l.u l.t' l.u' first second l.after ∙ ap Some l.rest

pub back_undoes_left : BackUndoesLeft
back_undoes_left = origin_of
