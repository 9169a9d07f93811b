-- A net built one event at a time.
use Rattle.std.proofs.Common.{◌≡◌, ℕ, suc, ◌+◌, ◌-◌, ◌*◌, ◌<◌, ◌≤◌, true, false, List, [], ◌∷◌, ◌++◌, drop, is_err, Some, None, Ok, Err, Option, Result, sym, ap, ◌∙◌, ⊎_elim, arith}
use Rattle.std.proofs.lemmas.Bool.{cases_lt}
use Rattle.byte_strings.specs.Buffer.{Str}
use Rattle.nets.specs.declared.event.Event.{Event}
use Rattle.nets.specs.declared.event.EventFault.{EventFault}
use Rattle.nets.specs.Events.{add_fault, add_answer, events_after}
use Rattle.frame.specs.declared.fault.FrameFault.{FrameFault}
use Rattle.frame.specs.declared.fault.FrameFault.TheVariants.{BadSetup}
use Rattle.frame.specs.Events.{event_answer}
use Rattle.frame.proofs.Numbers.{event_behind}
use Rattle.server.specs.Setup.{built}

-- what comes of one event
with_event : ℕ → Str → List Event → ℕ → ℕ → Option Event → Result (List Event) FrameFault
with_event start bytes es i n o = elim o [ None ↦ Ok es | Some e ↦ elim (add_fault es e) [ None ↦ built start bytes (es ++ e ∷ []) (i + 1) n | Some f ↦ Err (BadSetup (start + 17 * i)) ] ]

with_fault : ℕ → Str → List Event → Event → ℕ → ℕ → Option EventFault → Result (List Event) FrameFault
with_fault start bytes es e i n o = elim o [ None ↦ built start bytes (es ++ e ∷ []) (i + 1) n | Some f ↦ Err (BadSetup (start + 17 * i)) ]

one_more : (start : ℕ) (bytes : Str) (es : List Event) (i : ℕ) → i < 48 → built start bytes es i (48 - i) ≡ with_event start bytes es i (48 - (i + 1)) (event_answer bytes i)
unfolding with_event built
one_more start bytes es i lt = let step : 48 - i ≡ suc (48 - (i + 1)) = omega arith in ap (built start bytes es i) step

-- where es are the events before index i, and rest the bytes from it on
module _ (start : ℕ) (bytes rest : Str) (es : List Event) (i : ℕ) (r : Result (List Event) FrameFault) (inv : built start bytes es i (48 - i) ≡ r) (left : rest ≡ drop (17 * i) bytes) where
  here : event_answer rest 0 ≡ event_answer bytes i
  here = ap (λ s. event_answer s 0) left ∙ event_behind bytes i

  pub built_all : 48 ≤ i → Ok es ≡ r
  unfolding built
  built_all done = let none : 48 - i ≡ 0 = omega arith in sym (ap (built start bytes es i) none) ∙ inv

  pub built_none : event_answer rest 0 ≡ None → Ok es ≡ r
  unfolding with_event
  built_none e =
      ⊎_elim
      (λ (lt : i < 48). sym (one_more start bytes es i lt ∙ ap (with_event start bytes es i (48 - (i + 1))) (sym here ∙ e)) ∙ inv)
      (λ (done : 48 ≤ i). built_all done)
      (cases_lt i 48)

  module _ (e : Event) (lt : i < 48) (at : event_answer rest 0 ≡ Some e) where
    split : with_fault start bytes es e i (48 - (i + 1)) (add_fault es e) ≡ r
    unfolding with_event with_fault
    split = sym (one_more start bytes es i lt ∙ ap (with_event start bytes es i (48 - (i + 1))) (sym here ∙ at)) ∙ inv

    pub built_bad : (o : Result (Unit {0}) EventFault) → o ≡ add_answer (add_fault es e) → is_err o ≡ true → Err (BadSetup (start + 17 * i)) ≡ r
    unfolding with_fault
    built_bad o told bad = go (add_fault es e) split (ap is_err (sym told) ∙ bad)
      where
        go : (f : Option EventFault) → with_fault start bytes es e i (48 - (i + 1)) f ≡ r → is_err (add_answer f) ≡ true → Err (BadSetup (start + 17 * i)) ≡ r
        go None s b = let z : ◌≡◌ {A = ℕ} 0 1 = cc in absurd (omega arith)
        go (Some f) s b = s

    pub built_more : (o : Result (Unit {0}) EventFault) (next : List Event) → o ≡ add_answer (add_fault es e) → is_err o ≡ false → next ≡ events_after (add_fault es e) es e → built start bytes next (i + 1) (48 - (i + 1)) ≡ r
    unfolding with_fault
    built_more o next told good after = go (add_fault es e) split (ap is_err (sym told) ∙ good) after
      where
        go : (f : Option EventFault) → with_fault start bytes es e i (48 - (i + 1)) f ≡ r → is_err (add_answer f) ≡ false → next ≡ events_after f es e → built start bytes next (i + 1) (48 - (i + 1)) ≡ r
        go None s b a = ap (λ l. built start bytes l (i + 1) (48 - (i + 1))) a ∙ s
        go (Some f) s b a = let z : ◌≡◌ {A = ℕ} 0 1 = cc in absurd (omega arith)
