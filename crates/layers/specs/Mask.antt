-- A step system from which steps are taken away by the names that they show.
use Rattle.std.specs.Prelude.{ℕ, Bool, true, false, ◌||◌, List, None, Err, if◌then◌else◌}
use Rattle.actions.specs.Names.{hides}
use Rattle.steps.specs.Meaning.{Str, Transitions, Independence}

module _ (names : List ℕ) (t : Transitions) where
  -- whether a step shows a listed name or its co-name
  abbrev pub stops : Str → Bool
  stops x = hides names (t.label x).action

  -- A step that is stopped is no step, and leads nowhere. All else is as inside.
  abbrev pub mask_transitions : Transitions
  mask_transitions =
      record {
        state = t.state;
        step = λ x. if stops x then false else t.step x;
        label = t.label;
        next = λ a x. if stops x then Err 0 else t.next a x;
        bad_state = t.bad_state;
        bad_step = t.bad_step;
        hidden = λ x. if stops x then true else t.hidden x;
      }

  -- whether one of two steps is stopped
  abbrev pub stops_one : Str → Str → Bool
  stops_one x y = stops x || stops y

  -- A step that is stopped is independent of none.
  abbrev pub mask_independence : Independence → Independence
  mask_independence i =
      record {
        left = λ x y. if stops_one x y then None else i.left x y;
        back = λ x z. if stops_one x z then None else i.back x z;
      }
