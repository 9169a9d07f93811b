-- Terms follow the rules: what is proved of them in ccs.
use Rattle.std.proofs.Common.{◌≡◌, ℕ, ◌↔◌, List, length, Some, None, Err, sym, refl, ap, ◌∙◌, IsTrue}
use Rattle.steps.specs.Meaning.{Str}
use Rattle.steps.specs.Laws.{Laws}
use Rattle.ccs.specs.Syntax.{Term, Proof}
use Rattle.ccs.specs.Label.{label}
use Rattle.ccs.specs.Spelling.{term_bytes, proof_bytes, sound_proof}
use Rattle.ccs.specs.System.{sound_bodies, terms_transitions, terms_independence}
use Rattle.ccs.specs.FollowLaws.{Goes}
use Rattle.ccs.specs.ResidualLaws.{Leaves}
use Rattle.ccs.proofs.Places.{state_place, step_place}
use Rattle.ccs.proofs.System.{terms_laws, states_are_terms, steps_are_proper, next_by_rules, misfit_place, labels_shown, left_by_rules, back_undoes_left}
use Rattle.systems.specs.Design.Design.{of_terms}
use Rattle.systems.specs.Rules.{ProofShows, MisfitIn, WithinState, WithinStep}
use Rattle.systems.proofs.DesignRules.{FollowsRules}

module _ (ds : List Term) (sound : IsTrue (sound_bodies (length ds) ds)) where
  laws : Laws (terms_transitions ds) terms_independence
  laws = terms_laws ds sound

  within_step : (x : Str) → ((terms_transitions ds).bad_step x ≡ None) ↔ WithinStep (of_terms ds) x
  within_step x = (
    λ e. let w = (laws.step_refusals x).0 (e, refl) in ((steps_are_proper ds x).0 w.0, w.1),
    λ w. ((laws.step_refusals x).1 ((steps_are_proper ds x).1 w.0, w.1)).0,
  )

  within_state : (s : Str) → ((terms_transitions ds).bad_state s ≡ None) ↔ WithinState (of_terms ds) s
  within_state s = (
    λ e. let w = (laws.state_refusals s).0 e in ((states_are_terms ds s).0 w.0, w.1),
    λ w. (laws.state_refusals s).1 ((states_are_terms ds s).1 w.0, w.1),
  )

  stuck : (a x : Str) (k : ℕ) → WithinState (of_terms ds) a → WithinStep (of_terms ds) x →
      ((terms_transitions ds).next a x ≡ Err k) ↔ (((b : Str) → Goes ds a x b → ⊥) × MisfitIn ds a x k)
  stuck a x k ((p, spelled, p_sound), _) ((t, step, t_sound, good), _) = (to, from)
    where
      same : (p : Term) (t : Proof) → term_bytes p ≡ a → proof_bytes t ≡ x
          → (terms_transitions ds).next (term_bytes p) (proof_bytes t) ≡ (terms_transitions ds).next a x
      same p t e f = ap (λ s. (terms_transitions ds).next s (proof_bytes t)) e
          ∙ ap (λ y. (terms_transitions ds).next a y) f

      to : (terms_transitions ds).next a x ≡ Err k → ((b : Str) → Goes ds a x b → ⊥) × MisfitIn ds a x k
      to e = (
        λ b g. absurd (cc (sym ((next_by_rules ds sound a x b).1 g) ∙ e)),
        record {
          p = p;
          t = t;
          state = spelled;
          state_sound = p_sound;
          step = step;
          step_sound = t_sound;
          is_proper = good;
          misfit = (misfit_place ds sound p p_sound t t_sound good k).0 (same p t spelled step ∙ e);
        },
      )

      from : ((b : Str) → Goes ds a x b → ⊥) × MisfitIn ds a x k → (terms_transitions ds).next a x ≡ Err k
      from (nowhere, h) =
          sym (same h.p h.t h.state h.step)
          ∙ (misfit_place ds sound h.p h.state_sound h.t h.step_sound h.is_proper k).1 h.misfit

  shows : (x : Str) (c : ℕ) → WithinStep (of_terms ds) x
      → (((terms_transitions ds).label x).action ≡ c) ↔ ProofShows x c
  shows x c ((t, step, t_sound, good), _) = (
    λ e. record { t = t; step = step; step_sound = t_sound; action = sym (shown t step t_sound) ∙ e },
    λ h. shown h.t h.step h.step_sound ∙ h.action,
  )
    where
      shown : (u : Proof) → proof_bytes u ≡ x → IsTrue (sound_proof u)
          → ((terms_transitions ds).label x).action ≡ label u
      shown u e s = ap (λ y. ((terms_transitions ds).label y).action) (sym e) ∙ ap (λ l. l.action) (labels_shown ds u s)

  back : (x z y : Str) → (terms_independence.back x z ≡ Some y) ↔ Leaves y x z
  back x z y =
      let undo = back_undoes_left x y z in
      let rule = left_by_rules y x z in
      (λ e. rule.0 (undo.0 e), λ h. undo.1 (rule.1 h))

  pub terms_follow : FollowsRules (of_terms ds)
  terms_follow =
      record {
        within_step = within_step;
        step_place = step_place ds;
        never_hidden = λ x. refl;
        shows = shows;
        within_state = within_state;
        state_place = λ s p bytes. state_place ds s p;
        moves = next_by_rules ds sound;
        stuck = stuck;
        left = left_by_rules;
        back = back;
      }
