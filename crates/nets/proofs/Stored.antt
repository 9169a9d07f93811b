-- The events that a net holds: how many, what adding one gives, and that all are sound.
use Rattle.std.proofs.Common.{◌≡◌, ℕ, ◌+◌, ◌^◌, ◌<◌, ◌≤◌, true, not, ltb, List, [], ◌∷◌, ◌++◌, length, get_or, take, is_some, Some, None, Ok, Err, Option, refl, ap, ◌∙◌, arith}
use Rattle.byte_strings.proofs.Lists.{pushed}
use Rattle.std.proofs.lemmas.Option.{slice_get-get_or, slice_get_past}
use Rattle.std.proofs.lemmas.Bool.{cond-true, cond-false, lt-ltb, le-ltb, and_from, and_parts}
use Rattle.steps.specs.Meaning.{Str}
use Rattle.nets.specs.declared.event.Event.{Event}
use Rattle.nets.specs.declared.event.EventFault.{EventFault}
use Rattle.nets.specs.declared.event.EventFault.TheVariants.{Full}
use Rattle.nets.specs.Events.{event_fault, is_narrow, sound_event, all_sound, add_fault, add_answer}
use Rattle.nets.specs.System.{read_event}

pub full : (es : List Event) (e : Event) → 48 ≤ length es → add_fault es e ≡ Some Full
full es e h = cond-false (ltb (length es) 48) (event_fault e) (Some Full) (le-ltb (length es) 48 h)

pub room : (es : List Event) (e : Event) → length es < 48 → add_fault es e ≡ event_fault e
room es e h = cond-true (ltb (length es) 48) (event_fault e) (Some Full) (lt-ltb (length es) 48 h)

-- an event that is taken has no fault
pub faultless : (o : Option EventFault) → Ok tt ≡ add_answer o → o ≡ None
faultless None e = refl
faultless (Some f) e = let z : ◌≡◌ {A = ℕ} 0 1 = cc in absurd (omega arith)

pub all_sound_push : (es : List Event) (e : Event) → all_sound es ≡ true → sound_event e ≡ true
    → all_sound (es ++ e ∷ []) ≡ true
all_sound_push [] e h k = and_from (sound_event e) true k refl
all_sound_push (f ∷ es) e h k =
    let parts = and_parts (sound_event f) (all_sound es) h in
    and_from (sound_event f) (all_sound (es ++ e ∷ [])) parts.0 (all_sound_push es e parts.1 k)

pub sound_added : (e : Event) → e.before < 2 ^ 64 → e.after < 2 ^ 64 → event_fault e ≡ None → sound_event e ≡ true
sound_added e low high none =
    and_from (is_narrow e) (not (is_some (event_fault e)))
    (and_from (ltb e.before (2 ^ 64)) (ltb e.after (2 ^ 64)) (lt-ltb e.before (2 ^ 64) low)
    (lt-ltb e.after (2 ^ 64) high)) (ap (λ (o : Option EventFault). not (is_some o)) none)

-- a sound event behind sound ones, where there is room
module _ (es : List Event) (e : Event) (space : length es < 48) where
  pub stored : take 48 (es ++ e ∷ []) ≡ es ++ e ∷ []
  stored = pushed 48 es e space

  pub stored_sound : all_sound es ≡ true → e.before < 2 ^ 64 → e.after < 2 ^ 64 → event_fault e ≡ None
      → all_sound (take 48 (es ++ e ∷ [])) ≡ true
  stored_sound sound low high none = ap all_sound stored ∙ all_sound_push es e sound (sound_added e low high none)
