-- What the meaning of a net owes the rules; each holds of the events of every net that exists.
use Rattle.std.specs.Prelude.{◌≡◌, ℕ, ◌↔◌, List, Some, Ok, Err, IsTrue}
use Rattle.steps.specs.Meaning.{Str}
use Rattle.steps.specs.Beginning.{LongestBeginning}
use Rattle.nets.specs.declared.event.Event.{Event}
use Rattle.nets.specs.System.{net_transitions, net_independence}
use Rattle.nets.specs.Rules.{AreBytes, IsMarking, Names, IsEvent, NetGoes, NetLeaves, Stuck, StepPlace}

-- states are markings, and steps name events
abbrev pub StatesAreMarkings : List Event → Type 0
StatesAreMarkings es = (s : Str) → (IsTrue ((net_transitions es).state s)) ↔ IsMarking s

abbrev pub StepsAreEvents : List Event → Type 0
StepsAreEvents es = (x : Str) → (IsTrue ((net_transitions es).step x)) ↔ IsEvent es x

-- a step leads from a state to another exactly where the firing rule says so
abbrev pub MovesByRule : List Event → Type 0
MovesByRule es = (a x b : Str) → ((net_transitions es).next a x ≡ Ok b) ↔ NetGoes es a x b

-- of a state and a step, place 0 is told exactly where the rule leads nowhere
abbrev pub StuckAtStart : List Event → Type 0
StuckAtStart es = (a x : Str) (p : ℕ) → IsMarking a → IsEvent es x →
    ((net_transitions es).next a x ≡ Err p) ↔ ((p ≡ 0) × Stuck es a x)

-- something is left of a step after another exactly where the rule says so, and back undoes it
abbrev pub LeavesByRule : List Event → Type 0
LeavesByRule es = (x y z : Str) → ((net_independence es).left x y ≡ Some z) ↔ NetLeaves es x y z

abbrev pub BackUndoes : List Event → Type 0
BackUndoes es = (x y z : Str) → ((net_independence es).back x z ≡ Some y) ↔ NetLeaves es y x z

-- a step shows its event's action
abbrev pub ShowsActions : List Event → Type 0
ShowsActions es = (x : Str) (e : Event) → Names es x e →
    (net_transitions es).label x ≡ record { action = e.action }

-- of bytes that are no state, and of a string that is no step, the place where the longest
-- beginning ends
abbrev pub StatePlaces : List Event → Type 0
StatePlaces es = (s : Str) (p : ℕ) → AreBytes s →
    (net_transitions es).bad_state s ≡ Some p → LongestBeginning IsMarking s p

abbrev pub StepPlaces : List Event → Type 0
StepPlaces es = (x : Str) (p : ℕ) → (net_transitions es).bad_step x ≡ Some p → StepPlace es x p
