-- A mask keeps the laws of step systems wherever the system inside does.
use Rattle.std.specs.Prelude.{◌≡◌, ℕ, ◌≤◌, Bool, true, false, ◌||◌, ◌↔◌, List, length, Some, None, Ok, Err, Option, Result, refl, IsTrue, IsFalse, if◌then◌else◌}
use Rattle.std.proofs.Common.{sym, ap, ◌∙◌}
use Rattle.std.proofs.lemmas.Bool.{cond-false, false≢true}
use Rattle.actions.specs.Names.{hides}
use Rattle.steps.specs.Meaning.{Str, Transitions, Independence}
use Rattle.steps.specs.Laws.{Laws, step_limit}
use Rattle.steps.proofs.Answered.{ok_not_err, some_not_none}
use Rattle.layers.specs.Mask.{stops, mask_transitions, mask_independence}

-- what is answered behind a test that stops was not stopped
shown_step : (h s : Bool) → IsTrue (if h then false else s) → (IsFalse h) × IsTrue s
shown_step true s e = absurd (false≢true e)
shown_step false s e = (refl, e)

shown_move : (h : Bool) (r : Result Str ℕ) (b : Str) → (if h then Err 0 else r) ≡ Ok b
    → (IsFalse h) × (r ≡ Ok b)
shown_move true r b e = ok_not_err b 0 (sym e)
shown_move false r b e = (refl, e)

shown_two : (h k : Bool) (o : Option Str) (z : Str) → (if h || k then None else o) ≡ Some z
    → (IsFalse h) × IsFalse k × (o ≡ Some z)
shown_two true k o z e = some_not_none z (sym e)
shown_two false true o z e = some_not_none z (sym e)
shown_two false false o z e = (refl, refl, e)

step_shown : (h s : Bool) → IsFalse h → IsTrue s → IsTrue (if h then false else s)
step_shown h s k e = cond-false h false s k ∙ e

move_shown : (h : Bool) (r : Result Str ℕ) (b : Str) → IsFalse h → r ≡ Ok b
    → (if h then Err 0 else r) ≡ Ok b
move_shown h r b k e = cond-false h (Err 0) r k ∙ e

two_shown : (h k : Bool) (o : Option Str) (z : Str) → IsFalse h → IsFalse k → o ≡ Some z
    → (if h || k then None else o) ≡ Some z
two_shown true k o z p q e = absurd (false≢true (sym p))
two_shown false true o z p q e = absurd (false≢true (sym q))
two_shown false false o z p q e = e

-- a string is told to be a step exactly where it is one, behind the same test
told_shown : (h d s : Bool) (o : Option ℕ) (n : ℕ)
    → ((o ≡ None) × IsFalse d) ↔ ((IsTrue s) × (n ≤ step_limit))
    → ((o ≡ None) × IsFalse (if h then true else d))
    ↔ ((IsTrue (if h then false else s)) × (n ≤ step_limit))
told_shown true d s o n e = (λ p. absurd (false≢true (sym p.1)), λ p. absurd (false≢true p.0))
told_shown false d s o n e = e

module _ (names : List ℕ) (t : Transitions) (i : Independence) (l : Laws t i) where
  -- what two steps of the mask leave is what they leave inside, and neither is stopped
  record Left (x y z : Str) : Type 0 where
    first : IsFalse (stops names t x)
    second : IsFalse (stops names t y)
    inside : i.left x y ≡ Some z

  left_from : (x y z : Str) → (mask_independence names t i).left x y ≡ Some z → Left x y z
  left_from x y z e =
      let s = shown_two (stops names t x) (stops names t y) (i.left x y) z e in
      record { first = s.0; second = s.1; inside = s.2 }

  left_to : (x y z : Str) → Left x y z → (mask_independence names t i).left x y ≡ Some z
  left_to x y z h = two_shown (stops names t x) (stops names t y)
      (i.left x y) z h.first h.second h.inside

  -- what is left of a step is stopped where the step is
  same_stop : (x y z : Str) → i.left x y ≡ Some z → stops names t z ≡ stops names t x
  same_stop x y z e = ap (λ r. hides names r.action) (l.left_label x y z e)

  move_from : (a x b : Str) → (mask_transitions names t).next a x ≡ Ok b
      → (IsFalse (stops names t x)) × (t.next a x ≡ Ok b)
  move_from a x b e = shown_move (stops names t x) (t.next a x) b e

  move_to : (a x b : Str) → IsFalse (stops names t x) → t.next a x ≡ Ok b
      → (mask_transitions names t).next a x ≡ Ok b
  move_to a x b s e = move_shown (stops names t x) (t.next a x) b s e

  rest_shown : (x y z : Str) → Left x y z → IsFalse (stops names t z)
  rest_shown x y z h = same_stop x y z h.inside ∙ h.first

  leads : (a x b : Str) → (mask_transitions names t).next a x ≡ Ok b
      → (IsTrue (t.state a)) × IsTrue ((mask_transitions names t).step x) × IsTrue (t.state b)
  leads a x b e =
      let m = move_from a x b e in
      let k = l.leads a x b m.1 in
      (k.0, step_shown (stops names t x) (t.step x) m.0 k.1, k.2)

  symmetric : (x y z : Str) → (mask_independence names t i).left x y ≡ Some z
      → (w : Str) × ((mask_independence names t i).left y x ≡ Some w)
  symmetric x y z e =
      let h = left_from x y z e in
      let k = l.symmetric x y z h.inside in
      (k.0, left_to y x k.0 (record { first = h.second; second = h.first; inside = k.1 }))

  irreflexive : (x : Str) → (mask_independence names t i).left x x ≡ None
  irreflexive x = go (stops names t x || stops names t x)
    where
      go : (h : Bool) → (if h then None else i.left x x) ≡ None
      go true = refl
      go false = l.irreflexive x

  diamond : (a b c x y x' y' : Str) → (mask_transitions names t).next a x ≡ Ok b
      → (mask_transitions names t).next a y ≡ Ok c
      → (mask_independence names t i).left x y ≡ Some x'
      → (mask_independence names t i).left y x ≡ Some y'
      → (d : Str) × ((mask_transitions names t).next b y' ≡ Ok d)
      × ((mask_transitions names t).next c x' ≡ Ok d)
  diamond a b c x y x' y' p q j k =
      let h = left_from x y x' j in
      let g = left_from y x y' k in
      let d = l.diamond a b c x y x' y' (move_from a x b p).1
      (move_from a y c q).1 h.inside g.inside in
      (d.0, move_to b y' d.0 (rest_shown y x y' g) d.1, move_to c x' d.0 (rest_shown x y x' h) d.2)

  left_step : (x y z : Str) → (mask_independence names t i).left x y ≡ Some z
      → IsTrue ((mask_transitions names t).step z)
  left_step x y z e =
      let h = left_from x y z e in
      step_shown (stops names t z) (t.step z) (rest_shown x y z h) (l.left_step x y z h.inside)

  origin : (x y z : Str)
      → ((mask_independence names t i).back x z ≡ Some y)
      ↔ ((mask_independence names t i).left y x ≡ Some z)
  origin x y z = (to, from)
    where
      to : (mask_independence names t i).back x z ≡ Some y
          → (mask_independence names t i).left y x ≡ Some z
      to e =
          let s = shown_two (stops names t x) (stops names t z) (i.back x z) y e in
          let inside = (l.origin x y z).0 s.2 in
          left_to y x z
          (record { first = sym (same_stop y x z inside) ∙ s.1; second = s.0; inside = inside })

      from : (mask_independence names t i).left y x ≡ Some z
          → (mask_independence names t i).back x z ≡ Some y
      from e =
          let h = left_from y x z e in
          two_shown (stops names t x) (stops names t z) (i.back x z) y h.second (rest_shown y x z h)
          ((l.origin x y z).1 h.inside)

  origin_possible : (a b c x y z : Str) → (mask_transitions names t).next a x ≡ Ok b
      → (mask_transitions names t).next b z ≡ Ok c → (mask_independence names t i).left y x ≡ Some z
      → (d : Str) × ((mask_transitions names t).next a y ≡ Ok d)
  origin_possible a b c x y z p q j =
      let h = left_from y x z j in
      let d = l.origin_possible a b c x y z (move_from a x b p).1 (move_from b z c q).1 h.inside in
      (d.0, move_to a y d.0 h.first d.1)

  cube : (x y w x' y' w' w'' : Str) → (mask_independence names t i).left y x ≡ Some y'
      → (mask_independence names t i).left w x ≡ Some w'
      → (mask_independence names t i).left x y ≡ Some x'
      → (mask_independence names t i).left w y ≡ Some w''
      → (v : Str) × ((mask_independence names t i).left w' y' ≡ Some v)
      × ((mask_independence names t i).left w'' x' ≡ Some v)
  cube x y w x' y' w' w'' p q j k =
      let hp = left_from y x y' p in
      let hq = left_from w x w' q in
      let hj = left_from x y x' j in
      let hk = left_from w y w'' k in
      let v = l.cube x y w x' y' w' w'' hp.inside hq.inside hj.inside hk.inside in (
        v.0,
        left_to w' y' v.0
            (record { first = rest_shown w x w' hq; second = rest_shown y x y' hp; inside = v.1 }),
        left_to w'' x' v.0
            (record { first = rest_shown w y w'' hk; second = rest_shown x y x' hj; inside = v.2 }),
      )

  independent_before : (x y w y' w' v : Str) → (mask_independence names t i).left y x ≡ Some y'
      → (mask_independence names t i).left w x ≡ Some w'
      → (mask_independence names t i).left y' w' ≡ Some v
      → (u : Str) × ((mask_independence names t i).left y w ≡ Some u)
  independent_before x y w y' w' v p q j =
      let hp = left_from y x y' p in
      let hq = left_from w x w' q in
      let u = l.independent_before x y w y' w' v hp.inside hq.inside (left_from y' w' v j).inside in
      (u.0, left_to y w u.0 (record { first = hp.first; second = hq.first; inside = u.1 }))

  pub mask_laws : Laws (mask_transitions names t) (mask_independence names t i)
  mask_laws =
      record {
        state_refusals = l.state_refusals;
        step_refusals = λ x. told_shown (stops names t x) (t.hidden x) (t.step x) (t.bad_step x)
            (length x) (l.step_refusals x);
        leads = leads;
        between_steps = λ x y z e. let h = left_from x y z e in
            step_shown (stops names t x) (t.step x) h.first (l.between_steps x y z h.inside);
        symmetric = symmetric;
        irreflexive = irreflexive;
        diamond = diamond;
        left_step = left_step;
        left_label = λ x y z e. l.left_label x y z (left_from x y z e).inside;
        left_length = λ x y z e. l.left_length x y z (left_from x y z e).inside;
        origin = origin;
        origin_possible = origin_possible;
        cube = cube;
        independent_before = independent_before;
      }
