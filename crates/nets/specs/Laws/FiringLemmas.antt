-- The firing rule and independence: what is computed on bits is what the relations say.
use Rattle.std.specs.Prelude.{◌≡◌, ℕ, ◌+◌, ◌%◌, ◌^◌, ◌<◌, max, Bool, ◌⊎◌, ◌↔◌, Some, None, Option, ◌==◌, ◌≢◌, IsTrue, IsFalse}
use Rattle.std.proofs.Common.{inl, inr, ⊎_elim, sym, ap, ◌∙◌, subst, arith}
use Rattle.std.specs.Int.Bits.{bit_and}
use Rattle.std.proofs.lemmas.Nat.{and_le_r, or_lt, xor_lt}
use Rattle.nets.specs.declared.event.Event.{Event}
use Rattle.nets.specs.Marking.{Holds}
use Rattle.nets.specs.Firing.{Fires, At, Apart, conditions, is_ready, marking_after, fire, apart_from}
use Rattle.std.proofs.lemmas.Bool.{cases_lt, cases_Bool, and_from, and_parts, eq-eqb, eqb-true, cond-true, cond-false}
use Rattle.nets.specs.Laws.Cases.{some_same, none_some}
use Rattle.nets.specs.Laws.Bits.{bit, bit_cases, bit_zero, bit_of_and, bit_of_or, bit_of_xor, same_bits}

-- the members of a part of a set are in the set, and conversely
pub part_holds : (m b : ℕ) → bit_and m b ≡ b → (c : ℕ) → Holds b c → Holds m c
part_holds m b e c h = omega (arith, bit_of_and m b c, ap (λ (n : ℕ). bit n c) e)

pub part_from : (m b : ℕ) → b < 2 ^ 64 → ((c : ℕ) → c < 64 → Holds b c → Holds m c)
    → bit_and m b ≡ b
part_from m b l h =
    same_bits 64 (bit_and m b) b (omega (arith, and_le_r m b)) l
    (λ c below. ⊎_elim (λ z. omega (arith, bit_of_and m b c))
    (λ o. omega (arith, bit_of_and m b c, h c below o)) (bit_cases b c))

-- sets with no common member have no common bit, and conversely
pub none_holds : (m a : ℕ) → bit_and m a ≡ 0 → (c : ℕ) → Holds a c → Holds m c → ⊥
none_holds m a e c h k = omega (arith, bit_of_and m a c, ap (λ (n : ℕ). bit n c) e, bit_zero c)

pub none_from : (m a : ℕ) → a < 2 ^ 64 → ((c : ℕ) → c < 64 → Holds a c → Holds m c → ⊥)
    → bit_and m a ≡ 0
none_from m a l h =
    same_bits 64 (bit_and m a) 0 (omega (arith, and_le_r m a)) (omega arith)
    (λ c below. ⊎_elim (λ z. omega (arith, bit_of_and m a c, bit_zero c))
    (λ o. ⊎_elim (λ z. omega (arith, bit_of_and m a c, bit_zero c))
    (λ p. absurd (h c below o p)) (bit_cases m c)) (bit_cases a c))

bit_switched : (e : Event) (m c : ℕ)
    → bit (marking_after e m) c ≡ (bit m c + max (bit e.before c) (bit e.after c)) % 2
bit_switched e m c = bit_of_xor m (conditions e) c
    ∙ ap (λ (n : ℕ). (bit m c + n) % 2) (bit_of_or e.before e.after c)

-- one condition: m and n its bits in the two markings, b and a those in the sets before and after
-- the event
changes : (m n b a : ℕ) → m < 2 → b < 2 → a < 2 → (b ≡ 1 → m ≡ 1) → (a ≡ 1 → m ≢ 1)
    → n ≡ (m + max b a) % 2 → (n ≡ 1) ↔ ((a ≡ 1) ⊎ ((m ≡ 1) × (b ≢ 1)))
changes m n b a m2 b2 a2 ready free e = (
  λ h. ⊎_elim (λ low. inr (grind arith, grind arith)) (λ high. inl (omega arith)) (cases_lt a 1),
  ⊎_elim (λ o. grind arith) (λ o. grind arith),
)

pub same_bit : {P : Type 0} (a b : ℕ) → a < 2 → b < 2 → (a ≡ 1) ↔ P → (b ≡ 1) ↔ P → a ≡ b
same_bit a b a2 b2 h k =
    ⊎_elim (λ low. let z : b ≡ 1 → ⊥ = λ o. omega (arith, h.1 (k.0 o)) in grind arith)
    (λ high. omega (arith, k.1 (h.0 (omega arith)))) (cases_lt a 1)

pub fired_possible : (e : Event) (m : ℕ) → IsTrue (is_ready e m)
    → fire e m ≡ Some (marking_after e m)
fired_possible e m p = cond-true (is_ready e m) (Some (marking_after e m)) None p

pub fired_impossible : (e : Event) (m : ℕ) → IsFalse (is_ready e m) → fire e m ≡ None
fired_impossible e m p = cond-false (is_ready e m) (Some (marking_after e m)) None p

module _ (e : Event) (m : ℕ) (marked : m < 2 ^ 64) (low : e.before < 2 ^ 64)
    (high : e.after < 2 ^ 64) where
  -- what is computed follows the rule
  fires_switched : IsTrue (is_ready e m) → Fires e m (marking_after e m)
  fires_switched p =
      let parts = and_parts (bit_and m e.before == e.before) (bit_and m e.after == 0) p in
      let ready = part_holds m e.before (eqb-true (bit_and m e.before) e.before parts.0) in
      let free = none_holds m e.after (eqb-true (bit_and m e.after) 0 parts.1) in
      record {
        ready = λ c _. ready c;
        free = λ c _. free c;
        follows = λ c _. changes (bit m c) (bit (marking_after e m) c) (bit e.before c)
            (bit e.after c) (omega arith) (omega arith) (omega arith) (ready c) (free c)
            (bit_switched e m c);
        marking = xor_lt 64 m (conditions e) marked (or_lt 64 e.before e.after low high);
      }

  -- and nothing else does
  possible_from : {m' : ℕ} → Fires e m m' → IsTrue (is_ready e m)
  possible_from f =
      and_from (bit_and m e.before == e.before) (bit_and m e.after == 0)
      (eq-eqb (bit_and m e.before) e.before (part_from m e.before low f.ready))
      (eq-eqb (bit_and m e.after) 0 (none_from m e.after high f.free))

  only_switched : (m' : ℕ) → Fires e m m' → m' ≡ marking_after e m
  only_switched m' f =
      let g = fires_switched (possible_from f) in
      same_bits 64 m' (marking_after e m) f.marking g.marking
      (λ c l. same_bit (bit m' c) (bit (marking_after e m) c) (omega arith) (omega arith)
      (f.follows c l) (g.follows c l))

  fires_exactly : (m' : ℕ) → (fire e m ≡ Some m') ↔ Fires e m m'
  fires_exactly m' = (
    λ h. ⊎_elim
        (λ p. subst (λ (n : ℕ). Fires e m n) (some_same (sym (fired_possible e m p) ∙ h))
        (fires_switched p))
        (λ p. absurd (none_some (sym (fired_impossible e m p) ∙ h)))
        (cases_Bool (is_ready e m)),
    λ f. fired_possible e m (possible_from f) ∙ ap Some (sym (only_switched m' f)),
  )

  pub fires_rule : {r : Option ℕ} → r ≡ fire e m → (m' : ℕ) → (r ≡ Some m') ↔ Fires e m m'
  fires_rule v m' = rw v (fires_exactly m')

-- what is at an event is what its number holds
at_touched : (e : Event) (c : ℕ) → At e c → Holds (conditions e) c
at_touched e c = ⊎_elim (λ h. omega (arith, bit_of_or e.before e.after c))
    (λ h. omega (arith, bit_of_or e.before e.after c))

touched_at : (e : Event) (c : ℕ) → Holds (conditions e) c → At e c
touched_at e c h = ⊎_elim (λ z. inr (omega (arith, bit_of_or e.before e.after c))) inl
    (bit_cases e.before c)

apart_exactly : (e f : Event) → f.before < 2 ^ 64 → f.after < 2 ^ 64
    → (IsTrue (apart_from e f)) ↔ Apart e f
apart_exactly e f low high = (
  λ h c l p q. none_holds (conditions e) (conditions f)
      (eqb-true (bit_and (conditions e) (conditions f)) 0 h) c (at_touched f c q)
      (at_touched e c p),
  λ a. eq-eqb (bit_and (conditions e) (conditions f)) 0
      (none_from (conditions e) (conditions f) (or_lt 64 f.before f.after low high)
      (λ c l p q. a c l (touched_at e c q) (touched_at f c p))),
)

pub apart_rule : (e f : Event) → f.before < 2 ^ 64 → f.after < 2 ^ 64 → {r : Bool}
    → r ≡ apart_from e f → (IsTrue r) ↔ Apart e f
apart_rule e f low high v = rw v (apart_exactly e f low high)
