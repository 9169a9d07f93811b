-- The place that is told of a string that is no state, or no step, of a net. A state is any eight bytes, so fewer begin
-- one
-- and of more the first eight do. A step is one byte, so a string that is none has an event's number in front or has
-- not.
use Rattle.std.proofs.Common.{◌≡◌, ℕ, zero, suc, ◌-◌, ◌<◌, ◌≤◌, List, [], ◌∷◌, ◌++◌, length, take, replicate, min, slice_index_or, None, Some, Ok, Err, Option, Result, refl, sym, ap, ◌∙◌, subst, ⊎_elim, arith}
use Rattle.std.proofs.lemmas.List.{length-append, length-take, length-replicate}
use Rattle.std.proofs.lemmas.List.Elements.{All-append, All-take, All-replicate}
use Rattle.std.proofs.lemmas.Bool.{cases_Bool, cond-true, cond-false}
use Rattle.std.specs.List.{slice_get}
use Rattle.std.specs.Result.{result_err}
use Rattle.std.specs.Int.Digits.{number_from_digits}
use Rattle.steps.specs.Meaning.{Str}
use Rattle.steps.specs.Beginning.{LongestBeginning}
use Rattle.nets.specs.declared.event.Event.{Event}
use Rattle.nets.specs.Marking.{eight_bytes, read_marking}
use Rattle.nets.specs.System.{lone_event, read_event, net_transitions}
use Rattle.nets.specs.Laws.Cases.{none_some, some_same}
use Rattle.nets.specs.Rules.{AreBytes, IsMarking, IsEvent, StepPlace}
use Rattle.nets.specs.RuleLaws.{StatePlaces, StepPlaces}
use Rattle.nets.proofs.Spelling.{marking_reads}

-- bytes that are not eight: as many as there are begin a marking, but no more than eight
not_eight : (s : Str) → AreBytes s → (length s ≡ 8 → ⊥) → LongestBeginning IsMarking s (min (length s) 8)
not_eight s h n =
    let p : ℕ = min (length s) 8 in
    record {
      within = omega arith;
      begins = (
        replicate (8 - min (length s) 8) 0,
        record {
          eight = omega (
            arith,
            length-append (take (min (length s) 8) s) (replicate (8 - min (length s) 8) 0),
            length-take (min (length s) 8) s,
            length-replicate {A = ℕ} (8 - min (length s) 8) 0,
          );
          bytes = All-append (λ b. b < 256) (take (min (length s) 8) s) (replicate (8 - min (length s) 8) 0)
              (All-take (λ b. b < 256) (min (length s) 8) s h)
              (All-replicate (λ b. b < 256) (8 - min (length s) 8) 0 (omega arith));
        },
      );
      longest = λ q r more within m. omega (arith, m.eight, length-append (take q s) r, length-take q s);
    }

pub net_state_places : (es : List Event) → StatePlaces es
net_state_places es s p bytes h =
    let other : length s ≡ 8
    → ⊥ = λ e. none_some (sym (ap result_err (marking_reads s (record { eight = e; bytes = bytes }))) ∙ h) in
    ⊎_elim
    (λ t. absurd (none_some
    (sym (ap result_err (cond-true (eight_bytes s) (Ok (number_from_digits 256 s)) (Err (min (length s) 8)) t))
    ∙ h)))
    (λ f.
    let place : min (length s) 8
    ≡ p = some_same
    (sym (ap result_err (cond-false (eight_bytes s) (Ok (number_from_digits 256 s)) (Err (min (length s) 8)) f))
    ∙ h) in
    subst (LongestBeginning IsMarking s) place (not_eight s bytes other))
    (cases_Bool (eight_bytes s))

take_none : (x : Str) → take 0 x ≡ []
take_none [] = refl
take_none (b ∷ x) = refl

-- a string that no event's number is in front of: nothing of it begins a step
none_in_front : (e : Event) (es : List Event) (x : Str) → ((k : ℕ) (y : Str) → x ≡ k ∷ y → slice_get (e ∷ es) k ≡ None)
    → LongestBeginning (IsEvent (e ∷ es)) x 0
none_in_front e es x n =
    record {
      within = omega arith;
      begins = (
        0 ∷ [],
        (e, record { number = 0; one_byte = ap (λ (s : Str). s ++ 0 ∷ []) (take_none x); there = refl }),
      );
      longest = λ q r more within named. longer q r x n more within named;
    }
  where
    longer : (q : ℕ) (r : Str) (x : Str) → ((k : ℕ) (y : Str) → x ≡ k ∷ y → slice_get (e ∷ es) k ≡ None) → 0 < q
        → q ≤ length x → IsEvent (e ∷ es) (take q x ++ r) → ⊥
    longer q r [] n more within named = omega arith
    longer zero r (k ∷ x) n more within named = omega arith
    longer (suc q) r (k ∷ x) n more within named =
        let same : k ≡ named.1.number = ap (λ (s : Str). slice_index_or s 0 0) named.1.one_byte in
        none_some (sym (n k x refl) ∙ ap (slice_get (e ∷ es)) same ∙ named.1.there)

-- an event's number with more behind it
one_in_front : (es : List Event) (k b : ℕ) (x : Str) (e : Event) → slice_get es k ≡ Some e
    → LongestBeginning (IsEvent es) (k ∷ b ∷ x) 1
one_in_front es k b x e h =
    record {
      within = omega arith;
      begins = ([], (e, record { number = k; one_byte = refl; there = h }));
      longest = λ q r more within named. omega
          (arith, ap length named.1.one_byte, length-append (take q (k ∷ b ∷ x)) r, length-take q (k ∷ b ∷ x));
    }

at_start : (es : List Event) (x : Str) → ((k : ℕ) (y : Str) → x ≡ k ∷ y → slice_get es k ≡ None) → StepPlace es x 0
at_start [] x n = StepPlace.no_event refl
at_start (e ∷ es) x n = StepPlace.unfit (none_in_front e es x n)

pub net_step_places : (es : List Event) → StepPlaces es
net_step_places es [] p h =
    subst (StepPlace es []) (some_same h) (at_start es [] (λ k y e. absurd (omega (arith, ap length e))))
net_step_places es (k ∷ x) p h = go (slice_get es k) x refl h
  where
    go : (o : Option Event) (x : Str) → slice_get es k ≡ o → result_err (lone_event o x) ≡ Some p
        → StepPlace es (k ∷ x) p
    go None x o h = subst (StepPlace es (k ∷ x)) (some_same h)
        (at_start es (k ∷ x) (λ n y e. ap (slice_get es) (ap (λ (s : Str). slice_index_or s 0 0) (sym e)) ∙ o))
    go (Some e) [] o h = absurd (none_some h)
    go (Some e) (b ∷ x) o h =
        subst (StepPlace es (k ∷ b ∷ x)) (some_same h) (StepPlace.unfit (one_in_front es k b x e o))
