-- Events read from a sound net, and firing in the presence of an independent event.
use Rattle.std.specs.Prelude.{◌≡◌, ℕ, zero, suc, ◌+◌, ◌%◌, ◌^◌, ◌<◌, ◌≤◌, min, Bool, true, false, not, ◌&&◌, List, [], ◌∷◌, length, is_some, Some, None, Ok, Err, Option, Result, ◌==◌, nat_eq, nat_lt, refl, IsTrue, IsFalse, if◌then◌else◌}
use Rattle.std.proofs.Common.{⊎_elim, sym, ap, ap₂, subst, ◌∙◌, arith}
use Rattle.std.specs.Int.Bits.{bit_and, bit_xor, and_self, or_add_and}
use Rattle.std.proofs.lemmas.Nat.{and_comm, and_le_r, or_lt}
use Rattle.std.proofs.lemmas.Bool.{and_parts, cases_Bool, cond-true, cond-false, ltb-true, eqb-true, eqb-false, ne_eqb, not-true, false≢true}
use Rattle.std.specs.List.{slice_get}
use Rattle.steps.specs.Meaning.{Str}
use Rattle.actions.specs.Action.{is_action}
use Rattle.nets.specs.declared.event.Event.{Event}
use Rattle.nets.specs.declared.event.EventFault.{EventFault}
use Rattle.nets.specs.Marking.{bytes_of}
use Rattle.nets.specs.Events.{has_conditions, shares_none, event_fault, is_narrow, sound_event, all_sound}
use Rattle.nets.specs.Firing.{conditions, is_ready, marking_after, fire, apart_from}
use Rattle.nets.specs.System.{lone_event, read_event, spelled_state, next_state, rest_of}
use Rattle.nets.specs.Laws.Cases.{some_same, none_some, ok_same, err_ok}
use Rattle.nets.specs.Laws.FiringLemmas.{fired_possible, fired_impossible}
use Rattle.nets.specs.Laws.Bits.{bit, bit_zero, bit_of_and, bit_of_or, bit_of_xor, same_bits}

-- what the laws use of an event of a net
pub record Sound (e : Event) : Type 0 where
  pub low : e.before < 2 ^ 64
  pub high : e.after < 2 ^ 64
  pub some : 0 < e.before

no_fault_filled : (a b c : Bool) (f g h : EventFault)
    → IsTrue (not
    (is_some (if a then (if b then (if c then None else Some f) else Some g) else Some h)))
    → IsTrue b
no_fault_filled true true c f g h e = refl
no_fault_filled true false c f g h e = e
no_fault_filled false b c f g h e = absurd (false≢true e)

sound_from : (e : Event) → IsTrue (sound_event e) → Sound e
sound_from e h =
    let parts = and_parts (is_narrow e) (not (is_some (event_fault e))) h in
    let widths = and_parts (nat_lt e.before (2 ^ 64)) (nat_lt e.after (2 ^ 64)) parts.0 in
    let sets = no_fault_filled (is_action e.action) (has_conditions e)
    (shares_none e) _ _ _ parts.1 in
    let before = (and_parts (not (e.before == 0)) (not (e.after == 0)) sets).0 in
    let apart0 : e.before ≡ 0 → ⊥ = eqb-false e.before 0 (not-true (e.before == 0) before) in
    record {
      low = ltb-true e.before (2 ^ 64) widths.0;
      high = ltb-true e.after (2 ^ 64) widths.1;
      some = omega arith;
    }

pub sound_at : (es : List Event) (k : ℕ) (e : Event) → IsTrue (all_sound es) →
    slice_get es k ≡ Some e → IsTrue (sound_event e)
sound_at [] k e h n = absurd (none_some n)
sound_at (f ∷ es) zero e h n =
    subst (λ (g : Event). IsTrue (sound_event g)) (some_same n)
    (and_parts (sound_event f) (all_sound es) h).0
sound_at (f ∷ es) (suc k) e h n = sound_at es k e (and_parts (sound_event f) (all_sound es) h).1 n

-- what is known of a string that names an event
pub record Named (x : Str) (e : Event) : Type 0 where
  pub one : length x ≡ 1
  pub sound : Sound e

pub read_named : (es : List Event) → IsTrue (all_sound es) → (x : Str) (e : Event)
    → read_event es x ≡ Ok e → Named x e
read_named es h [] e r = absurd (err_ok r)
read_named es h (k ∷ x) e r =
    found_named (slice_get es k) x r (λ n. sound_from e (sound_at es k e h n))
  where
    found_named : (o : Option Event) (x : Str) {k : ℕ} {e : Event} → lone_event o x ≡ Ok e
        → (o ≡ Some e → Sound e) → Named (k ∷ x) e
    found_named None x r s = absurd (err_ok r)
    found_named (Some f) [] r s = record { one = refl; sound = s (cc) }
    found_named (Some f) (b ∷ x) r s = absurd (err_ok r)

pub touched_narrow : (e : Event) → Sound e → conditions e < 2 ^ 64
touched_narrow e s = or_lt 64 e.before e.after s.low s.high

-- an event is at some condition, so it is not independent of itself
pub never_apart : (e : Event) → Sound e → IsFalse (apart_from e e)
never_apart e s =
    ne_eqb (bit_and (conditions e) (conditions e)) 0
    (λ z. omega (
      arith,
      and_self (conditions e),
      or_add_and e.before e.after,
      and_le_r e.before e.after,
      s.some,
    ))

pub apart_comm : (e f : Event) → apart_from e f ≡ apart_from f e
apart_comm e f = ap (λ (n : ℕ). nat_eq n 0) (and_comm (conditions e) (conditions f))

-- changing conditions outside a set u does not change which of a part b of it hold
one_untouched : (m t b u : ℕ) → m < 2 → t < 2 → b ≤ u → u < 2 → min t u ≡ 0
    → min ((m + t) % 2) b ≡ min m b
one_untouched m t b u m2 t2 part u2 none = grind arith

untouched : (m t b u : ℕ) → b < 2 ^ 64 → ((c : ℕ) → bit b c ≤ bit u c) → bit_and t u ≡ 0
    → bit_and (bit_xor m t) b ≡ bit_and m b
untouched m t b u low part none =
    same_bits 64 (bit_and (bit_xor m t) b) (bit_and m b) (omega (arith, and_le_r (bit_xor m t) b))
    (omega (arith, and_le_r m b))
    (λ c _. bit_of_and (bit_xor m t) b c ∙ ap (λ (n : ℕ). min n (bit b c)) (bit_of_xor m t c)
    ∙ one_untouched (bit m c) (bit t c) (bit b c) (bit u c) (omega arith) (omega arith) (part c)
    (omega arith) (sym (bit_of_and t u c) ∙ ap (λ (n : ℕ). bit n c) none ∙ bit_zero c)
    ∙ sym (bit_of_and m b c))

-- an event is possible after an independent one exactly if it was before
pub still_possible : (e f : Event) (m : ℕ) → Sound f → IsTrue (apart_from e f)
    → is_ready f (marking_after e m) ≡ is_ready f m
still_possible e f m s a =
    let none = eqb-true (bit_and (conditions e) (conditions f)) 0 a in
    ap₂ (λ (b n : ℕ). (b == f.before) && n == 0)
    (untouched m (conditions e) f.before (conditions f) s.low
    (λ c. omega (arith, bit_of_or f.before f.after c)) none)
    (untouched m (conditions e) f.after (conditions f) s.high
    (λ c. omega (arith, bit_of_or f.before f.after c)) none)

-- an event takes a marking to a state
pub record Steps (e : Event) (m : ℕ) (b : Str) : Type 0 where
  pub ready : IsTrue (is_ready e m)
  pub end : bytes_of (marking_after e m) ≡ b

steps : (e : Event) (m : ℕ) (b : Str) → spelled_state (fire e m) ≡ Ok b → Steps e m b
steps e m b h =
    ⊎_elim
    (λ p. record { ready = p; end = ok_same (sym (ap spelled_state (fired_possible e m p)) ∙ h) })
    (λ p. absurd (err_ok (sym (ap spelled_state (fired_impossible e m p)) ∙ h)))
    (cases_Bool (is_ready e m))

pub moved_as : (e : Event) (m : ℕ) (b : Str) {p : Result Event ℕ} {r : Result ℕ ℕ} → p ≡ Ok e
    → r ≡ Ok m → next_state p r ≡ Ok b → Steps e m b
moved_as e m b by from h = steps e m b (sym (ap₂ next_state by from) ∙ h)

-- what was read for a move
pub record Moved (p : Result Event ℕ) (r : Result ℕ ℕ) : Type 0 where
  pub event : Event
  pub marking : ℕ
  pub by : p ≡ Ok event
  pub from : r ≡ Ok marking

pub moved_from : (p : Result Event ℕ) (r : Result ℕ ℕ) (b : Str) → next_state p r ≡ Ok b → Moved p r
moved_from (Ok e) (Ok m) b h = record { event = e; marking = m; by = refl; from = refl }
moved_from (Ok e) (Err q) b h = absurd (err_ok h)
moved_from (Err q) r b h = absurd (err_ok h)

pub moves : (e : Event) (m : ℕ) {p : Result Event ℕ} {r : Result ℕ ℕ} → p ≡ Ok e → r ≡ Ok m
    → IsTrue (is_ready e m) → next_state p r ≡ Ok (bytes_of (marking_after e m))
moves e m p r h = ap₂ next_state p r ∙ ap spelled_state (fired_possible e m h)

-- what is left of an event, where something is: itself, and the two events are independent
pub record Left (p q : Result Event ℕ) (x z : Str) : Type 0 where
  pub event : Event
  pub other : Event
  pub first : p ≡ Ok event
  pub second : q ≡ Ok other
  pub free : IsTrue (apart_from event other)
  pub same : x ≡ z

pub left_from : (p q : Result Event ℕ) (x z : Str) → rest_of x p q ≡ Some z → Left p q x z
left_from (Ok e) (Ok f) x z h =
    ⊎_elim
    (λ a. record {
      event = e;
      other = f;
      first = refl;
      second = refl;
      free = a;
      same = some_same (sym (cond-true (apart_from e f) (Some x) None a) ∙ h);
    })
    (λ a. absurd (none_some (sym (cond-false (apart_from e f) (Some x) None a) ∙ h)))
    (cases_Bool (apart_from e f))
left_from (Ok e) (Err k) x z h = absurd (none_some h)
left_from (Err k) q x z h = absurd (none_some h)

pub remains_comm : (x : Str) (p q : Result Event ℕ) → rest_of x p q ≡ rest_of x q p
remains_comm x (Ok e) (Ok f) = ap (λ (b : Bool). (if b then Some x else None)) (apart_comm e f)
remains_comm x (Ok e) (Err k) = refl
remains_comm x (Err k) (Ok f) = refl
remains_comm x (Err k) (Err l) = refl
