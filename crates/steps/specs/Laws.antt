-- The laws that every step system keeps.
use Rattle.std.specs.Prelude.{◌≡◌, ℕ, ◌≤◌, ◌↔◌, length, Some, None, Ok, IsTrue, IsFalse}
use Rattle.steps.specs.declared.limits.TheConstants.{STATE_LIMIT, STEP_LIMIT}
use Rattle.steps.specs.Meaning.{Str, Transitions, Independence}

-- States have at most this many bytes where a question is asked, and steps at most that many.
abbrev pub state_limit : ℕ
state_limit = STATE_LIMIT

abbrev pub step_limit : ℕ
step_limit = STEP_LIMIT

pub record Laws (t : Transitions) (i : Independence) : Type 0 where
  -- a string is refused as a state exactly where it is none, or is too long; a step likewise
  pub state_refusals : (s : Str)
      → (t.bad_state s ≡ None) ↔ (IsTrue (t.state s) × (length s ≤ state_limit))
  pub step_refusals : (x : Str)
      → ((t.bad_step x ≡ None) × IsFalse (t.hidden x))
      ↔ (IsTrue (t.step x) × (length x ≤ step_limit))
  -- a step leads from a state to a state
  pub leads : (a x b : Str)
      → t.next a x ≡ Ok b
      → IsTrue (t.state a) × IsTrue (t.step x) × IsTrue (t.state b)
  -- only steps are independent, of each other, and never of themselves
  pub between_steps : (x y z : Str) → i.left x y ≡ Some z → IsTrue (t.step x)
  pub symmetric : (x y z : Str) → i.left x y ≡ Some z → (w : Str) × (i.left y x ≡ Some w)
  pub irreflexive : (x : Str) → i.left x x ≡ None
  -- independent steps that are both possible can follow each other, to one end
  pub diamond : (a b c x y x' y' : Str)
      → t.next a x ≡ Ok b → t.next a y ≡ Ok c
      → i.left x y ≡ Some x' → i.left y x ≡ Some y'
      → (d : Str) × (t.next b y' ≡ Ok d) × (t.next c x' ≡ Ok d)
  -- what is left of a step is a step with its label, and no longer
  pub left_step : (x y z : Str) → i.left x y ≡ Some z → IsTrue (t.step z)
  pub left_label : (x y z : Str) → i.left x y ≡ Some z → t.label z ≡ t.label x
  pub left_length : (x y z : Str) → i.left x y ≡ Some z → length z ≤ length x
  -- back answers the one step of which the given one is left, and it was possible before
  pub origin : (x y z : Str) → (i.back x z ≡ Some y) ↔ (i.left y x ≡ Some z)
  pub origin_possible : (a b c x y z : Str)
      → t.next a x ≡ Ok b → t.next b z ≡ Ok c → i.left y x ≡ Some z
      → (d : Str) × (t.next a y ≡ Ok d)
  -- three pairwise independent steps: what is left of one after the other two does not depend on
  -- their order
  pub cube : (x y w x' y' w' w'' : Str)
      → i.left y x ≡ Some y' → i.left w x ≡ Some w'
      → i.left x y ≡ Some x' → i.left w y ≡ Some w''
      → (v : Str) × (i.left w' y' ≡ Some v) × (i.left w'' x' ≡ Some v)
  -- steps whose rests after a third are independent are independent
  pub independent_before : (x y w y' w' v : Str)
      → i.left y x ≡ Some y' → i.left w x ≡ Some w' → i.left y' w' ≡ Some v
      → (u : Str) × (i.left y w ≡ Some u)
