-- A design that follows the rules does so behind a renaming behind a mask.
-- With the mask's test false all that is asked is asked of the design, by computing. The test is true exactly where the
-- action that a step has got is a listed name or the co-name of one.
use Rattle.std.proofs.Common.{◌≡◌, ℕ, Bool, true, false, cond, ◌||◌, ◌↔◌, List, Some, None, Ok, Err, Option, refl, sym, ap, ap₂, ◌∙◌, subst}
use Rattle.std.proofs.lemmas.Bool.{false≢true}
use Rattle.actions.specs.declared.pairs.Pair.{Pair}
use Rattle.actions.specs.Names.{all_names}
use Rattle.actions.specs.Pairs.{sound_pairs, replacement}
use Rattle.steps.specs.Meaning.{Str, Transitions, Independence}
use Rattle.layers.specs.Mask.{stops, mask_transitions, mask_independence}
use Rattle.layers.specs.Renaming.{renaming_transitions}
use Rattle.layers.specs.Promises.{ShowsListed}
use Rattle.layers.proofs.Promises.{hides_from, hides_to, renames_exactly}
use Rattle.systems.specs.Design.{Design, transitions_of, independence_of}
use Rattle.systems.specs.Rules.{Moves, LeftOf, WithinState, WithinStep, StuckAt}
use Rattle.systems.specs.Possible.{ShownAs, Stopped}
use Rattle.systems.proofs.DesignRules.{FollowsRules}
use Rattle.systems.proofs.Judged.{ByRules}

module _ (d : Design) (ps : List Pair) (ns : List ℕ) (pairs : sound_pairs ps ≡ true) (names : all_names ns ≡ true)
    (r : FollowsRules d) where
  -- below the mask, and with it
  abbrev renamed : Transitions
  renamed = renaming_transitions ps (transitions_of d)

  abbrev layered : Transitions
  layered = mask_transitions ns renamed

  abbrev left_layered : Independence
  left_layered = mask_independence ns renamed (independence_of d)

  -- a step shows what the rules and the pairs give
  shows : (x : Str) (c : ℕ) → WithinStep d x → ((layered.label x).action ≡ c) ↔ ShownAs d ps ns x c
  shows x c w =
      let own = ((transitions_of d).label x).action in
      let renamed = renames_exactly ps pairs own c in (
        λ e. record { own = own; does = (r.shows x own w).0 refl; renames = renamed.0 e },
        λ h. ap (replacement ps) ((r.shows x h.own w).1 h.does) ∙ (renames_exactly ps pairs h.own c).1 h.renames,
      )

  stop_of : (x : Str) → layered.hidden x ≡ true → stops ns renamed x ≡ true
  stop_of x = go (stops ns renamed x)
    where
      go : (b : Bool) → cond b true ((transitions_of d).hidden x) ≡ true → b ≡ true
      go true e = refl
      go false e = absurd (false≢true (sym (r.never_hidden x) ∙ e))

  not_stopped : (x : Str) → layered.hidden x ≡ false → stops ns renamed x ≡ false
  not_stopped x = go (stops ns renamed x)
    where
      go : (b : Bool) → cond b true ((transitions_of d).hidden x) ≡ false → b ≡ false
      go true e = absurd (false≢true (sym e))
      go false e = refl

  stopped : (x : Str) → WithinStep d x → (layered.hidden x ≡ true) ↔ Stopped d ps ns x
  stopped x w = (to, from)
    where
      to : layered.hidden x ≡ true → Stopped d ps ns x
      to e =
          let action = (layered.label x).action in
          record { action = action; shown = (shows x action w).0 refl; listed = hides_to ns action names (stop_of x e) }

      from : Stopped d ps ns x → layered.hidden x ≡ true
      from h =
          let is = (shows x h.action w).1 h.shown in
          let hid = hides_from ns (layered.label x).action names (subst (ShowsListed ns) (sym is) h.listed) in
          ap (λ b. cond b true ((transitions_of d).hidden x)) hid

  moves : (a x b : Str) → layered.hidden x ≡ false → (layered.next a x ≡ Ok b) ↔ Moves d a x b
  moves a x b shown =
      let same : layered.next a x
      ≡ (transitions_of d).next a x =
      ap (λ h. cond h (Err 0) ((transitions_of d).next a x)) (not_stopped x shown) in
      let rule = r.moves a x b in
      (λ e. rule.0 (sym same ∙ e), λ h. same ∙ rule.1 h)

  stuck : (a x : Str) (p : ℕ) → layered.hidden x ≡ false → WithinState d a → WithinStep d x →
      (layered.next a x ≡ Err p) ↔ (((b : Str) → Moves d a x b → ⊥) × StuckAt d a x p)
  stuck a x p shown state step =
      let same : layered.next a x
      ≡ (transitions_of d).next a x =
      ap (λ h. cond h (Err 0) ((transitions_of d).next a x)) (not_stopped x shown) in
      let rule = r.stuck a x p state step in
      (λ e. rule.0 (sym same ∙ e), λ h. same ∙ rule.1 h)

  unstopped : (x y : Str) (o : Option Str) → layered.hidden x ≡ false → layered.hidden y ≡ false
      → cond (stops ns renamed x || stops ns renamed y) None o ≡ o
  unstopped x y o e f = ap₂ (λ h k. cond (h || k) None o) (not_stopped x e) (not_stopped y f)

  left : (x y z : Str) → layered.hidden x ≡ false → layered.hidden y ≡ false
      → (left_layered.left x y ≡ Some z) ↔ LeftOf d x y z
  left x y z e f =
      let same = unstopped x y ((independence_of d).left x y) e f in
      let rule = r.left x y z in
      (λ h. rule.0 (sym same ∙ h), λ h. same ∙ rule.1 h)

  back : (x z y : Str) → layered.hidden x ≡ false → layered.hidden z ≡ false
      → (left_layered.back x z ≡ Some y) ↔ LeftOf d y x z
  back x z y e f =
      let same = unstopped x z ((independence_of d).back x z) e f in
      let rule = r.back x z y in
      (λ h. rule.0 (sym same ∙ h), λ h. same ∙ rule.1 h)

  pub layered_by_rules : ByRules d ps ns layered left_layered
  layered_by_rules =
      record {
        within_step = r.within_step;
        step_place = r.step_place;
        stopped = stopped;
        shows = shows;
        within_state = r.within_state;
        state_place = r.state_place;
        moves = moves;
        stuck = stuck;
        left = left;
        back = back;
      }
