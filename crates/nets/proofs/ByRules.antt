-- A net moves by the firing rule. A string is read as the marking that it spells, or the event that it names, so a move
-- is
-- the firing of an event that was read, and what is left of a step is the step where the two events have no condition
-- in
-- common. The bits that the code computes follow the rules by the lemmas that its laws use.
use Rattle.std.proofs.Common.{◌≡◌, ℕ, ◌<◌, ◌^◌, ◌↔◌, List, None, Some, Ok, Err, Option, Result, refl, sym, ap, ap₂, ◌∙◌, subst, ⊎_elim, arith, IsTrue, is_ok}
use Rattle.std.proofs.lemmas.Bool.{cases_Bool}
use Rattle.steps.specs.Meaning.{Str}
use Rattle.nets.specs.declared.event.Event.{Event}
use Rattle.nets.specs.Events.{all_sound}
use Rattle.nets.specs.Marking.{bytes_of, read_marking}
use Rattle.nets.specs.Firing.{Fires, is_ready, marking_after, fire, Apart, apart_from}
use Rattle.nets.specs.System.{read_event, next_state, spelled_state, label_of, net_transitions, net_independence}
use Rattle.nets.specs.Rules.{IsMarking, Spells, Names, IsEvent, NetGoes, NetLeaves, Stuck}
use Rattle.nets.specs.RuleLaws.{StatesAreMarkings, StepsAreEvents, MovesByRule, StuckAtStart, LeavesByRule, BackUndoes, ShowsActions}
use Rattle.nets.specs.Laws.{is_read, stays, net_laws}
use Rattle.nets.specs.Laws.Cases.{err_ok}
use Rattle.nets.specs.Laws.FiringLemmas.{fired_possible, fired_impossible, fires_rule, apart_rule}
use Rattle.nets.specs.Laws.Moves.{Sound, read_named, moved_as, moved_from, left_from}
use Rattle.nets.proofs.Spelling.{read_spells, marking_reads, spelled_reads, bytes_spell, spelled_bytes}
use Rattle.nets.proofs.Naming.{read_names, names_read}

pub net_states : (es : List Event) → StatesAreMarkings es
net_states es s = (
  λ h. let r = is_read (read_marking s) h in (read_spells s r.0 r.1).state,
  λ h. ap is_ok (marking_reads s h),
)

pub net_steps : (es : List Event) → StepsAreEvents es
net_steps es x = (
  λ h. let r = is_read (read_event es x) h in (r.0, read_names es x r.0 r.1),
  λ h. ap is_ok (names_read es x h.0 h.1),
)

pub net_labels : (es : List Event) → ShowsActions es
net_labels es x e n = ap label_of (names_read es x e n)

-- what follows by an event that was read, from a marking that was read
next_as : (es : List Event) (a x : Str) (e : Event) (m : ℕ) → Names es x e → read_marking a ≡ Ok m
    → (net_transitions es).next a x ≡ spelled_state (fire e m)
next_as es a x e m n r = ap₂ next_state (names_read es x e n) r

module _ (es : List Event) (sound : IsTrue (all_sound es)) where
  sound_event_of : (x : Str) (e : Event) → read_event es x ≡ Ok e → Sound e
  sound_event_of x e r = (read_named es sound x e r).sound

  goes : (a x b : Str) → (net_transitions es).next a x ≡ Ok b → NetGoes es a x b
  goes a x b h =
      let v = moved_from (read_event es x) (read_marking a) b h in
      let t = moved_as v.event v.marking b v.by v.from h in
      let start = read_spells a v.marking v.from in
      let good = sound_event_of x v.event v.by in
      let after = marking_after v.event v.marking in
      let fires = (fires_rule v.event v.marking start.marking good.low good.high refl after).0
      (fired_possible v.event v.marking t.ready) in
      record {
        event = v.event;
        before = v.marking;
        after = after;
        step = read_names es x v.event v.by;
        start = start;
        fires = fires;
        end = subst (λ (w : Str). Spells w after) t.end (bytes_spell after fires.marking);
      }

  moves : (a x b : Str) → NetGoes es a x b → (net_transitions es).next a x ≡ Ok b
  moves a x b g =
      let good = sound_event_of x g.event (names_read es x g.event g.step) in
      let fires = (fires_rule g.event g.before g.start.marking good.low good.high refl g.after).1 g.fires in
      next_as es a x g.event g.before g.step (spelled_reads a g.before g.start)
      ∙ ap spelled_state fires
      ∙ ap Ok (spelled_bytes b g.after g.end)

  pub net_moves_by_rule : MovesByRule es
  net_moves_by_rule a x b = (goes a x b, moves a x b)

  pub net_stuck : StuckAtStart es
  net_stuck a x p state step =
      let e = step.0 in
      let m = is_read (read_marking a) (ap is_ok (marking_reads a state)) in
      let read = next_as es a x e m.0 step.1 m.1 in
      ⊎_elim
      (λ ready.
      let leads = read ∙ ap spelled_state (fired_possible e m.0 ready) in (
        λ h. absurd (err_ok (sym h ∙ leads)),
        λ h. absurd (h.1.nowhere (bytes_of (marking_after e m.0)) (goes a x (bytes_of (marking_after e m.0)) leads)),
      ))
      (λ not_ready.
      let none = read ∙ ap spelled_state (fired_impossible e m.0 not_ready) in (
        λ h. let start : p ≡ 0 =
            cc in (start, record { state = state; step = step; nowhere = λ b g. err_ok (sym none ∙ moves a x b g) }),
        λ h. none ∙ ap Err (sym h.0),
      ))
      (cases_Bool (is_ready e m.0))

  pub net_leaves_by_rule : LeavesByRule es
  net_leaves_by_rule x y z = (
    λ h.
        let l = left_from (read_event es x) (read_event es y) x z h in
        let good = sound_event_of y l.other l.second in
        record {
          first = l.event;
          second = l.other;
          step = read_names es x l.event l.first;
          other = read_names es y l.other l.second;
          nothing_shared = (apart_rule l.event l.other good.low good.high refl).0 l.free;
          same = sym l.same;
        },
    λ l.
        let first = names_read es x l.first l.step in
        let second = names_read es y l.second l.other in
        let good = sound_event_of y l.second second in
        stays l.first l.second x first second ((apart_rule l.first l.second good.low good.high refl).1 l.nothing_shared)
        ∙ ap Some (sym l.same),
  )

  pub net_back_undoes : BackUndoes es
  net_back_undoes x y z =
      let origin = (net_laws es sound).origin x y z in
      let left = net_leaves_by_rule y x z in
      (λ h. left.0 (origin.0 h), λ h. origin.1 (left.1 h))
