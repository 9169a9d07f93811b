-- A net follows the rules: what is proved of it in nets, with each place told in no other case.
use Rattle.std.proofs.Common.{◌≡◌, ℕ, ◌↔◌, List, [], Some, None, Err, sym, refl, ap, ◌∙◌, subst, IsTrue}
use Rattle.steps.specs.Meaning.{Str}
use Rattle.steps.specs.Laws.{Laws}
use Rattle.nets.specs.declared.event.Event.{Event}
use Rattle.nets.specs.Events.{all_sound}
use Rattle.nets.specs.System.{net_transitions, net_independence}
use Rattle.nets.specs.Laws.{net_laws}
use Rattle.nets.specs.Rules.{AreBytes, IsMarking, Names, IsEvent, NetGoes, StepPlace}
use Rattle.nets.specs.Rules.StepPlace.{no_event, unfit}
use Rattle.nets.proofs.ByRules.{net_states, net_steps, net_moves_by_rule, net_stuck, net_leaves_by_rule, net_back_undoes, net_labels}
use Rattle.nets.proofs.Places.{net_state_places, net_step_places}
use Rattle.systems.specs.Design.Design.{of_net}
use Rattle.systems.specs.Rules.{EventShows, WithinState, WithinStep, NoStateAt, NoStepAt}
use Rattle.systems.proofs.DesignRules.{FollowsRules, one_longest, exactly_told}

-- a net with no event names none
none_named : (x : Str) (e : Event) → Names [] x e → ⊥
none_named x e h = cc h.there

none_there : (es : List Event) (x : Str) → es ≡ [] → IsEvent es x → ⊥
none_there es x e (f, named) = none_named x f (subst (λ es. Names es x f) e named)

one_place : (es : List Event) (x : Str) (p q : ℕ) → StepPlace es x p → StepPlace es x q → p ≡ q
one_place es x p q (no_event e) (no_event f) = refl
one_place es x p q (no_event e) (unfit h) = absurd (none_there es _ e h.begins.1)
one_place es x p q (unfit h) (no_event e) = absurd (none_there es _ e h.begins.1)
one_place es x p q (unfit h) (unfit g) = one_longest (IsEvent es) x p q h g

module _ (es : List Event) (sound : IsTrue (all_sound es)) where
  laws : Laws (net_transitions es) (net_independence es)
  laws = net_laws es sound

  within_step : (x : Str) → ((net_transitions es).bad_step x ≡ None) ↔ WithinStep (of_net es) x
  within_step x = (
    λ e. let w = (laws.step_refusals x).0 (e, refl) in ((net_steps es x).0 w.0, w.1),
    λ w. ((laws.step_refusals x).1 ((net_steps es x).1 w.0, w.1)).0,
  )

  within_state : (s : Str) → ((net_transitions es).bad_state s ≡ None) ↔ WithinState (of_net es) s
  within_state s = (
    λ e. let w = (laws.state_refusals s).0 e in ((net_states es s).0 w.0, w.1),
    λ w. (laws.state_refusals s).1 ((net_states es s).1 w.0, w.1),
  )

  step_place : (x : Str) (p : ℕ) → ((net_transitions es).bad_step x ≡ Some p) ↔ NoStepAt (of_net es) x p
  step_place x =
      exactly_told ((net_transitions es).bad_step x) (NoStepAt (of_net es) x)
      (λ p e. (λ w. absurd (cc (sym ((within_step x).1 w) ∙ e)), net_step_places es x p e))
      (λ p q h g. one_place es x p q h.1 g.1)
      (λ p e h. h.0 ((within_step x).0 e))

  state_place : (s : Str) (p : ℕ) → AreBytes s
      → ((net_transitions es).bad_state s ≡ Some p) ↔ NoStateAt (of_net es) s p
  state_place s p bytes =
      exactly_told ((net_transitions es).bad_state s) (NoStateAt (of_net es) s)
      (λ p e. (λ w. absurd (cc (sym ((within_state s).1 w) ∙ e)), net_state_places es s p bytes e))
      (λ p q h g. one_longest IsMarking s p q h.1 g.1)
      (λ p e h. h.0 ((within_state s).0 e))
      p

  stuck : (a x : Str) (p : ℕ) → WithinState (of_net es) a → WithinStep (of_net es) x →
      ((net_transitions es).next a x ≡ Err p) ↔ (((b : Str) → NetGoes es a x b → ⊥) × (p ≡ 0))
  stuck a x p state step =
      let told = net_stuck es sound a x p state.0 step.0 in (
        λ e. let h = told.0 e in (h.1.nowhere, h.0),
        λ h. told.1 (h.1, record { state = state.0; step = step.0; nowhere = h.0 }),
      )

  shows : (x : Str) (c : ℕ) → WithinStep (of_net es) x → (((net_transitions es).label x).action ≡ c) ↔ EventShows es x c
  shows x c ((e, named), _) = (
    λ h. record { event = e; step = named; action = sym (ap (λ l. l.action) (net_labels es x e named)) ∙ h },
    λ h. ap (λ l. l.action) (net_labels es x h.event h.step) ∙ h.action,
  )

  pub net_follows : FollowsRules (of_net es)
  net_follows =
      record {
        within_step = within_step;
        step_place = step_place;
        never_hidden = λ x. refl;
        shows = shows;
        within_state = within_state;
        state_place = state_place;
        moves = net_moves_by_rule es sound;
        stuck = stuck;
        left = net_leaves_by_rule es sound;
        back = λ x z y. net_back_undoes es sound x y z;
      }
