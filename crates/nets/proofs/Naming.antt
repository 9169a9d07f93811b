-- The strings that name an event of a net are those that are read as one.
use Rattle.std.proofs.Common.{◌≡◌, ℕ, Result, List, [], ◌∷◌, None, Some, Ok, Err, Option, refl, ap, ◌∙◌}
use Rattle.std.specs.List.{slice_get}
use Rattle.steps.specs.Meaning.{Str}
use Rattle.nets.specs.declared.event.Event.{Event}
use Rattle.nets.specs.System.{lone_event, read_event, event_answer}
use Rattle.nets.specs.Laws.Cases.{err_ok, ok_same}
use Rattle.nets.specs.Rules.{Names}

pub read_names : (es : List Event) (x : Str) (e : Event) → read_event es x ≡ Ok e → Names es x e
read_names es [] e r = absurd (err_ok r)
read_names es (k ∷ x) e r = go (slice_get es k) x refl r
  where
    go : (o : Option Event) (x : Str) → slice_get es k ≡ o → lone_event o x ≡ Ok e → Names es (k ∷ x) e
    go None x o r = absurd (err_ok r)
    go (Some f) [] o r = record { number = k; one_byte = refl; there = o ∙ ap Some (ok_same r) }
    go (Some f) (b ∷ x) o r = absurd (err_ok r)

pub names_read : (es : List Event) (x : Str) (e : Event) → Names es x e → read_event es x ≡ Ok e
names_read es x e n = ap (read_event es) n.one_byte ∙ ap (λ (o : Option Event). lone_event o []) n.there

pub answer_names : (es : List Event) (x : Str) (e : Event) → Ok e ≡ event_answer (read_event es x) → Names es x e
answer_names es x e h = read_names es x e (go (read_event es x) h)
  where
    go : (q : Result Event ℕ) → Ok e ≡ event_answer q → q ≡ Ok e
    go (Ok f) h = ap Ok (cc)
    go (Err p) h = absurd (cc)
