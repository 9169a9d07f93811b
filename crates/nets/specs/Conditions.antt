-- What a net asks of an event's action and its two sets of conditions, and which faults an event
-- has.
use Rattle.std.specs.Prelude.{ℕ, ◌<◌, IsTrue, IsFalse}
use Rattle.actions.specs.Action.{is_action}
use Rattle.nets.specs.declared.event.Event.{Event}
use Rattle.nets.specs.declared.event.EventFault.{EventFault}
use Rattle.nets.specs.declared.event.EventFault.TheVariants.{NoAction, EmptySet, SharedCondition}
use Rattle.nets.specs.Marking.{Holds}

-- some condition is in the set that a number stands for
abbrev pub HasCondition : ℕ → Type 0
HasCondition s = (c : ℕ) × (c < 64) × Holds s c

-- some condition is both before and after the event
abbrev pub SharesCondition : Event → Type 0
SharesCondition e = (c : ℕ) × (c < 64) × Holds e.before c × Holds e.after c

-- what a net asks of an event
pub record IsProper (e : Event) : Type 0 where
  pub action : IsTrue (is_action e.action)
  pub has_before : HasCondition e.before
  pub has_after : HasCondition e.after
  pub no_shared : SharesCondition e → ⊥

-- What is wrong with an event: of several things the first, in this order.
pub data HasFault (e : Event) : EventFault → Type 0 where
  no_action : IsFalse (is_action e.action) → HasFault e NoAction
  none_before : IsTrue (is_action e.action) → (HasCondition e.before → ⊥) → HasFault e EmptySet
  none_after : IsTrue (is_action e.action) → (HasCondition e.after → ⊥) → HasFault e EmptySet
  shared : IsTrue (is_action e.action) → HasCondition e.before → HasCondition e.after →
      SharesCondition e → HasFault e SharedCondition
