-- The laws of step systems hold of every net whose events are sound. A net's step system names this
-- proof, so it stands in specs/, with what it uses beneath it in Laws/. No definition is here.
pub mod Bits
pub mod Cases
pub mod FiringLemmas
pub mod Markings
pub mod Moves
use Rattle.std.specs.Prelude.{◌≡◌, ℕ, ◌≤◌, true, ◌↔◌, List, length, is_ok, Some, None, Ok, Err, Result, bit_xor, refl, IsTrue}
use Rattle.std.proofs.Common.{sym, ap, ap₂, subst, ◌∙◌, arith}
use Rattle.std.specs.Int.Bits.{xor_assoc}
use Rattle.std.proofs.lemmas.Nat.{xor_comm, xor_lt}
use Rattle.std.proofs.lemmas.Bool.{cond-true, cond-false, false≢true}
use Rattle.std.specs.Result.{result_err}
use Rattle.steps.specs.Meaning.{Str}
use Rattle.steps.specs.Laws.{Laws}
use Rattle.nets.specs.declared.event.Event.{Event}
use Rattle.nets.specs.Marking.{bytes_of, read_marking}
use Rattle.nets.specs.Events.{all_sound}
use Rattle.nets.specs.Firing.{conditions, is_ready, marking_after, apart_from}
use Rattle.nets.specs.System.{read_event, rest_of, label_of, net_transitions, net_independence}
use Rattle.nets.specs.Laws.Markings.{read_marked, read_bytes}
use Rattle.nets.specs.Laws.Moves.{Sound, read_named, touched_narrow, never_apart, apart_comm, still_possible, Steps, moved_as, Moved, moved_from, moves, Left, left_from, remains_comm}
use Rattle.nets.specs.Laws.Cases.{none_some}

-- a string is read exactly if there is no place where it is not
pub is_read : {X : Type 0} (p : Result X ℕ) → IsTrue (is_ok p) → (x : X) × (p ≡ Ok x)
is_read (Ok x) h = (x, refl)
is_read (Err k) h = absurd (false≢true h)

read_ok : {X : Type 0} (p : Result X ℕ) {x : X} → p ≡ Ok x → IsTrue (is_ok p)
read_ok p h = ap is_ok h

nowhere_bad : {X : Type 0} (p : Result X ℕ) → (result_err p ≡ None) ↔ (IsTrue (is_ok p))
nowhere_bad (Ok x) = (λ _. refl, λ _. refl)
nowhere_bad (Err k) = (λ h. absurd (none_some (sym h)), λ h. absurd (false≢true h))

pub stays : (e f : Event) (x : Str) {p q : Result Event ℕ} → p ≡ Ok e → q ≡ Ok f
    → IsTrue (apart_from e f) → rest_of x p q ≡ Some x
stays e f x p q free = ap₂ (rest_of x) p q ∙ cond-true (apart_from e f) (Some x) None free

never_left : (x : Str) (p : Result Event ℕ) → ((e : Event) → p ≡ Ok e → Sound e)
    → rest_of x p p ≡ None
never_left x (Ok e) s = cond-false (apart_from e e) (Some x) None (never_apart e (s e refl))
never_left x (Err k) s = refl

exchanged : (m s t : ℕ) → bit_xor (bit_xor m t) s ≡ bit_xor (bit_xor m s) t
exchanged m s t = xor_assoc m t s ∙ ap (bit_xor m) (xor_comm t s) ∙ sym (xor_assoc m s t)

module _ (es : List Event) (good : IsTrue (all_sound es)) where
  sound_of : (x : Str) {e : Event} → read_event es x ≡ Ok e → Sound e
  sound_of x {e} r = (read_named es good x e r).sound

  left_of : (x y z : Str) → (net_independence es).left x y ≡ Some z
      → Left (read_event es x) (read_event es y) x z
  left_of x y z h = left_from (read_event es x) (read_event es y) x z h

  moved : (a x b : Str) → (net_transitions es).next a x ≡ Ok b
      → Moved (read_event es x) (read_marking a)
  moved a x b h = moved_from (read_event es x) (read_marking a) b h

  state_short : (s : Str) → IsTrue (is_ok (read_marking s)) → length s ≤ 256
  state_short s h = let r = is_read (read_marking s) h in
      omega (arith, (read_marked s r.0 r.1).eight)

  step_short : (x : Str) → IsTrue (is_ok (read_event es x)) → length x ≤ 64
  step_short x h = let r = is_read (read_event es x) h in
      omega (arith, (read_named es good x r.0 r.1).one)

  -- what a move has written is read again
  read_end : (e : Event) (m : ℕ) (a b : Str) → Sound e → read_marking a ≡ Ok m → Steps e m b
      → read_marking b ≡ Ok (marking_after e m)
  read_end e m a b s r t =
      subst (λ (w : Str). read_marking w ≡ Ok (marking_after e m)) t.end
      (read_bytes (marking_after e m)
      (xor_lt 64 m (conditions e) (read_marked a m r).narrow (touched_narrow e s)))

  leads : (a x b : Str) → (net_transitions es).next a x ≡ Ok b
      → (IsTrue (is_ok (read_marking a))) × IsTrue (is_ok (read_event es x))
      × IsTrue (is_ok (read_marking b))
  leads a x b h =
      let v = moved a x b h in (
        ap is_ok v.from,
        ap is_ok v.by,
        ap is_ok (read_end v.event v.marking a b (sound_of x v.by) v.from
            (moved_as v.event v.marking b v.by v.from h)),
      )

  -- after e, the independent event f is possible still
  second_move : (e f : Event) (m : ℕ) (a b y : Str) → Sound e → Sound f → IsTrue (apart_from e f)
      → read_event es y ≡ Ok f → read_marking a ≡ Ok m → Steps e m b → IsTrue (is_ready f m)
      → (net_transitions es).next b y ≡ Ok (bytes_of (marking_after f (marking_after e m)))
  second_move e f m a b y se sf free by from t ready =
      moves f (marking_after e m) by (read_end e m a b se from t)
      (still_possible e f m sf free ∙ ready)

  diamond : (a b c x y x' y' : Str) → (net_transitions es).next a x ≡ Ok b
      → (net_transitions es).next a y ≡ Ok c → (net_independence es).left x y ≡ Some x'
      → (net_independence es).left y x ≡ Some y'
      → (d : Str) × ((net_transitions es).next b y' ≡ Ok d)
      × ((net_transitions es).next c x' ≡ Ok d)
  diamond a b c x y x' y' h k i j =
      let l = left_of x y x' i in
      let v = moved a x b h in
      let t = moved_as l.event v.marking b l.first v.from h in
      let u = moved_as l.other v.marking c l.second v.from k in
      let d = bytes_of (marking_after l.other (marking_after l.event v.marking)) in (
        d,
        subst (λ (w : Str). (net_transitions es).next b w ≡ Ok d) (left_of y x y' j).same
            (second_move l.event l.other v.marking a b y (sound_of x l.first)
            (sound_of y l.second) l.free l.second v.from t u.ready),
        subst (λ (w : Str). (net_transitions es).next c w ≡ Ok d) l.same
            (second_move l.other l.event v.marking a c x (sound_of y l.second) (sound_of x l.first)
            (apart_comm l.other l.event ∙ l.free) l.first v.from u t.ready
            ∙ ap (λ (n : ℕ). Ok (bytes_of n))
            (exchanged v.marking (conditions l.event) (conditions l.other))),
      )

  origin_possible : (a b c x y z : Str) → (net_transitions es).next a x ≡ Ok b
      → (net_transitions es).next b z ≡ Ok c → (net_independence es).left y x ≡ Some z
      → (d : Str) × ((net_transitions es).next a y ≡ Ok d)
  origin_possible a b c x y z h k i =
      let l = left_of y x z i in
      let v = moved a x b h in
      let t = moved_as l.other v.marking b l.second v.from h in
      let read_b = read_end l.other v.marking a b (sound_of x l.second) v.from t in
      let u = moved_as l.event (marking_after l.other v.marking) c l.first read_b
      (subst (λ (w : Str). (net_transitions es).next b w ≡ Ok c) (sym l.same) k) in (
        bytes_of (marking_after l.event v.marking),
        moves l.event v.marking l.first v.from
            (sym (still_possible l.other l.event v.marking (sound_of y l.first)
            (apart_comm l.other l.event ∙ l.free)) ∙ u.ready),
      )

  origin : (x y z : Str)
      → ((net_independence es).back x z ≡ Some y) ↔ ((net_independence es).left y x ≡ Some z)
  origin x y z = (
    λ h. let same = (left_from (read_event es x) (read_event es z) z y h).same in
        subst (λ (w : Str). rest_of w (read_event es w) (read_event es x) ≡ Some z) same
        (remains_comm z (read_event es z) (read_event es x) ∙ h ∙ ap Some (sym same)),
    λ h. let same = (left_of y x z h).same in
        subst (λ (w : Str). rest_of w (read_event es x) (read_event es w) ≡ Some y) same
        (remains_comm y (read_event es x) (read_event es y) ∙ h ∙ ap Some (sym same)),
  )

  cube : (x y w x' y' w' w'' : Str) → (net_independence es).left y x ≡ Some y'
      → (net_independence es).left w x ≡ Some w' → (net_independence es).left x y ≡ Some x'
      → (net_independence es).left w y ≡ Some w''
      → (v : Str) × ((net_independence es).left w' y' ≡ Some v)
      × ((net_independence es).left w'' x' ≡ Some v)
  cube x y w x' y' w' w'' h i j k =
      let yy = (left_of y x y' h).same in
      let ww = (left_of w x w' i).same in
      let xx = (left_of x y x' j).same in
      let wv = (left_of w y w'' k).same in
      (w, (cc), (cc))

  independent_before : (x y w y' w' v : Str) → (net_independence es).left y x ≡ Some y'
      → (net_independence es).left w x ≡ Some w' → (net_independence es).left y' w' ≡ Some v
      → (u : Str) × ((net_independence es).left y w ≡ Some u)
  independent_before x y w y' w' v h i j =
      let yy = (left_of y x y' h).same in
      let ww = (left_of w x w' i).same in
      (v, (cc))

  pub net_laws : Laws (net_transitions es) (net_independence es)
  net_laws =
      record {
        state_refusals = λ s. (
          λ h. let ok = (nowhere_bad (read_marking s)).0 h in
              (ok, state_short s ok),
          λ h. (nowhere_bad (read_marking s)).1 h.0,
        );
        step_refusals = λ x. (
          λ h. let ok = (nowhere_bad (read_event es x)).0 h.0 in
              (ok, step_short x ok),
          λ h. ((nowhere_bad (read_event es x)).1 h.0, refl),
        );
        leads = leads;
        between_steps = λ x y z h. ap is_ok (left_of x y z h).first;
        symmetric = λ x y z h. let l = left_of x y z h in
            (y, stays l.other l.event y l.second l.first (apart_comm l.other l.event ∙ l.free));
        irreflexive = λ x. never_left x (read_event es x) (λ e. sound_of x);
        diamond = diamond;
        left_step = λ x y z h. let l = left_of x y z h in
            subst (λ (w : Str). IsTrue (is_ok (read_event es w))) l.same (ap is_ok l.first);
        left_label = λ x y z h. ap (λ (w : Str). label_of (read_event es w))
            (sym (left_of x y z h).same);
        left_length = λ x y z h. omega (arith, ap length (left_of x y z h).same);
        origin = origin;
        origin_possible = origin_possible;
        cube = cube;
        independent_before = independent_before;
      }
