-- A set of conditions, as a number, has one where the number is not 0; so what `check` computes is what is asked of an
-- event.
use Rattle.std.proofs.Common.{◌≡◌, ℕ, zero, suc, ◌/◌, ◌%◌, ◌^◌, ◌<◌, Bool, true, false, not, ◌&&◌, eqb, List, None, Some, Ok, Err, Option, Result, is_some, ltb, subst, refl, sym, ap, ◌∙◌, ⊎_elim, arith, IsTrue, IsFalse, cond}
use Rattle.std.proofs.lemmas.Bool.{cases_lt, cases_Bool, and_parts, and_from, eqb-true, eqb-false, not-true, ltb-true, false≢true}
use Rattle.std.specs.Int.Bits.{bit_and}
use Rattle.std.proofs.lemmas.Nat.{and_le_r}
use Rattle.std.specs.List.{slice_get}
use Rattle.steps.specs.Meaning.{Str}
use Rattle.actions.specs.Action.{is_action}
use Rattle.nets.specs.declared.event.Event.{Event}
use Rattle.nets.specs.declared.event.EventFault.{EventFault}
use Rattle.nets.specs.declared.event.EventFault.TheVariants.{NoAction, EmptySet, SharedCondition}
use Rattle.nets.specs.Marking.{Holds}
use Rattle.nets.specs.Conditions.{HasCondition, SharesCondition, IsProper, HasFault}
use Rattle.nets.specs.Events.{has_conditions, shares_none, event_fault, is_narrow, sound_event, all_sound, add_answer}
use Rattle.nets.specs.Rules.{Names}
use Rattle.nets.specs.Laws.Bits.{bit, bit_zero, bit_half, half_below, bit_of_and}
use Rattle.nets.specs.Laws.FiringLemmas.{none_holds}
use Rattle.nets.specs.Laws.Moves.{sound_at}

-- a number of n bits that is not 0 has a bit that is set
some_bit : (n s : ℕ) → s < 2 ^ n → 0 < s → (c : ℕ) × (c < n) × Holds s c
some_bit zero s h k = absurd (omega arith)
some_bit (suc n) s h k =
    ⊎_elim
    (λ low.
    let rest = some_bit n (s / 2) (half_below n s h) (omega arith) in
    (suc rest.0, omega (arith, rest.1), sym (bit_half s rest.0) ∙ rest.2))
    (λ high. (0, omega arith, omega arith))
    (cases_lt (s % 2) 1)

pub has_one : (s : ℕ) → s < 2 ^ 64 → (s ≡ 0 → ⊥) → HasCondition s
has_one s h n = some_bit 64 s h (omega (arith, n))

pub has_none : (s : ℕ) → s ≡ 0 → HasCondition s → ⊥
has_none s z h = omega (arith, h.2, ap (λ (n : ℕ). bit n h.0) z, bit_zero h.0)

shares_one : (e : Event) → e.after < 2 ^ 64 → (bit_and e.before e.after ≡ 0 → ⊥) → SharesCondition e
shares_one e h n =
    let one = has_one (bit_and e.before e.after) (omega (arith, and_le_r e.before e.after)) n in
    let both = bit_of_and e.before e.after one.0 in
    (one.0, one.1, omega (arith, both, one.2), omega (arith, both, one.2))

-- what an event's fault says of it
abbrev Verdict : Event → Option EventFault → Type 0
Verdict e None = IsProper e
Verdict e (Some f) = HasFault e f

module _ (e : Event) (low : e.before < 2 ^ 64) (high : e.after < 2 ^ 64) where
  filled : IsTrue (has_conditions e) → HasCondition e.before × HasCondition e.after
  filled h =
      let parts = and_parts (not (eqb e.before 0)) (not (eqb e.after 0)) h in (
        has_one e.before low (eqb-false e.before 0 (not-true (eqb e.before 0) parts.0)),
        has_one e.after high (eqb-false e.after 0 (not-true (eqb e.after 0) parts.1)),
      )

  empty : IsTrue (is_action e.action) → (b a : Bool) → eqb e.before 0 ≡ b → eqb e.after 0 ≡ a → IsFalse (not b && not a)
      → HasFault e EmptySet
  empty action true a p q h = HasFault.none_before action (has_none e.before (eqb-true e.before 0 p))
  empty action false true p q h = HasFault.none_after action (has_none e.after (eqb-true e.after 0 q))
  empty action false false p q h = absurd (cc)

  verdict_by : (a b c : Bool) → is_action e.action ≡ a → has_conditions e ≡ b → shares_none e ≡ c
      → Verdict e (cond a (cond b (cond c None (Some SharedCondition)) (Some EmptySet)) (Some NoAction))
  verdict_by true true true p q r =
      let sets = filled q in
      record {
        action = p;
        has_before = sets.0;
        has_after = sets.1;
        no_shared = λ s. none_holds e.before e.after (eqb-true (bit_and e.before e.after) 0 r) s.0 s.3 s.2;
      }
  verdict_by true true false p q r =
      let sets = filled q in
      HasFault.shared p sets.0 sets.1 (shares_one e high (eqb-false (bit_and e.before e.after) 0 r))
  verdict_by true false c p q r = empty p (eqb e.before 0) (eqb e.after 0) refl refl q
  verdict_by false b c p q r = HasFault.no_action p

  verdict : Verdict e (event_fault e)
  verdict = verdict_by (is_action e.action) (has_conditions e) (shares_none e) refl refl refl

  pub checked_proper : Ok tt ≡ add_answer (event_fault e) → IsProper e
  checked_proper h = go (event_fault e) h verdict
    where
      go : (o : Option EventFault) → Ok tt ≡ add_answer o → Verdict e o → IsProper e
      go None h v = v
      go (Some f) h v = absurd (cc)

  pub checked_faulty : (f : EventFault) → Err f ≡ add_answer (event_fault e) → HasFault e f
  checked_faulty f h = go (event_fault e) h verdict
    where
      go : (o : Option EventFault) → Err f ≡ add_answer o → Verdict e o → HasFault e f
      go None h v = absurd (cc)
      go (Some g) h v = subst (HasFault e) (cc) v

-- each event that a step names is proper
pub named_proper : (es : List Event) → IsTrue (all_sound es) → (x : Str) (e : Event) → Names es x e → IsProper e
named_proper es sound x e n =
    let good = and_parts (is_narrow e) (not (is_some (event_fault e))) (sound_at es n.number e sound n.there) in
    let widths = and_parts (ltb e.before (2 ^ 64)) (ltb e.after (2 ^ 64)) good.0 in
    go (event_fault e) good.1 (verdict e (ltb-true e.before (2 ^ 64) widths.0) (ltb-true e.after (2 ^ 64) widths.1))
  where
    go : (o : Option EventFault) → IsTrue (not (is_some o)) → Verdict e o → IsProper e
    go None h v = v
    go (Some f) h v = absurd (false≢true h)
