-- A setup gives all its events, or the first that is not sound.
use Rattle.std.proofs.Common.{◌≡◌, ℕ, zero, suc, ◌+◌, ◌*◌, ◌<◌, ltb, List, [], ◌∷◌, ◌++◌, length, Some, None, Ok, Err, Option, Result, sym, refl, ap, ◌∙◌, subst, inl, inr, ⊎_elim, arith}
use Rattle.std.proofs.lemmas.List.{get_or_append_left, get_or_push, length_push}
use Rattle.std.proofs.lemmas.Bool.{cond-true, lt-ltb, cases_lt}
use Rattle.byte_strings.specs.Buffer.{Str}
use Rattle.nets.specs.declared.event.Event.{Event}
use Rattle.nets.specs.declared.event.EventFault.{EventFault}
use Rattle.nets.specs.declared.event.EventFault.TheVariants.{Full}
use Rattle.nets.specs.Events.{add_fault, event_fault}
use Rattle.frame.specs.declared.fault.FrameFault.{FrameFault}
use Rattle.frame.specs.declared.fault.FrameFault.TheVariants.{BadSetup}
use Rattle.frame.specs.Events.{event_answer}
use Rattle.server.specs.Setup.{built, Spelled, Gives, SetupsGiveNets}
use Rattle.server.specs.Setup.Gives.{whole, broken}

spelled_more : (bytes : Str) (es : List Event) (e : Event) → Spelled bytes es → event_answer bytes (length es) ≡ Some e → event_fault e ≡ None → Spelled bytes (es ++ e ∷ [])
spelled_more bytes es e before at sound k d lt =
    ⊎_elim
    (λ (less : k < length es). let same = get_or_append_left es (e ∷ []) d k less in
    ((before k d less).0 ∙ ap Some (sym same), ap event_fault same ∙ (before k d less).1))
    (λ past.
    let here : length es ≡ k = omega (arith, length_push es e) in
    let same = get_or_push es e d k here in
    (ap (event_answer bytes) (sym here) ∙ at ∙ ap Some (sym same), ap event_fault same ∙ sound))
    (cases_lt k (length es))

-- what one event gives
module _ (start : ℕ) (bytes : Str) (n : ℕ) (es : List Event) (within : length es < 48) (before : Spelled bytes es) (more : (e : Event) → Spelled bytes (es ++ e ∷ []) → Gives start bytes (built start bytes (es ++ e ∷ []) (length es + 1) n)) where
  by_fault : (e : Event) (o : Option EventFault) → event_answer bytes (length es) ≡ Some e → event_fault e ≡ o → Gives start bytes (elim o as (λ _. Result (List Event) FrameFault) [ None ↦ built start bytes (es ++ e ∷ []) (length es + 1) n | Some f ↦ Err (BadSetup (start + 17 * length es)) ])
  by_fault e None at sound = more e (spelled_more bytes es e before at sound)
  by_fault e (Some f) at bad = broken es e f before at bad

  by_event : (o : Option Event) → event_answer bytes (length es) ≡ o → Gives start bytes (elim o as (λ _. Result (List Event) FrameFault) [ None ↦ Ok es | Some e ↦ elim (add_fault es e) [ None ↦ built start bytes (es ++ e ∷ []) (length es + 1) n | Some f ↦ Err (BadSetup (start + 17 * length es)) ] ])
  by_event None end = whole es before (inl end)
  by_event (Some e) at = by_fault e (add_fault es e) at (sym (cond-true (ltb (length es) 48) (event_fault e) (Some Full) (lt-ltb (length es) 48 within)))

gives : (start : ℕ) (bytes : Str) (n : ℕ) (es : List Event) → length es + n ≡ 48 → Spelled bytes es → Gives start bytes (built start bytes es (length es) n)
unfolding built
gives start bytes zero es size before = whole es before (inr (omega arith))
gives start bytes (suc n) es size before =
    by_event start bytes n es (omega arith) before
    (λ e spelled. subst (λ k. Gives start bytes (built start bytes (es ++ e ∷ []) k n)) (length_push es e) (gives start bytes n (es ++ e ∷ []) (omega (arith, length_push es e)) spelled))
    (event_answer bytes (length es)) refl

pub setups_give_nets : SetupsGiveNets
setups_give_nets start bytes = gives start bytes 48 [] (omega arith) (λ k d lt. absurd (omega arith))
