-- What the rules give a design: its states and steps, which step leads where, what it shows, and
-- what is left of it after another. Terms go by the transition rules, a net by the firing rule.
use Rattle.std.specs.Prelude.{◌≡◌, ℕ, ◌≤◌, List, length, IsTrue}
use Rattle.steps.specs.Meaning.{Str}
use Rattle.steps.specs.Laws.{state_limit, step_limit}
use Rattle.steps.specs.Beginning.{LongestBeginning}
use Rattle.ccs.specs.Syntax.{Term, Proof}
use Rattle.ccs.specs.Label.{label, proper}
use Rattle.ccs.specs.Spelling.{term_bytes, proof_bytes, sound_term, sound_proof}
use Rattle.ccs.specs.Beginning.{IsTerm, IsStep}
use Rattle.ccs.specs.First.{First}
use Rattle.ccs.specs.Follow.{MisfitAt}
use Rattle.ccs.specs.System.{body_of}
use Rattle.ccs.specs.ReadingLaws.{StateFault, StepFault}
use Rattle.ccs.specs.FollowLaws.{Goes}
use Rattle.ccs.specs.ResidualLaws.{Leaves}
use Rattle.nets.specs.declared.event.Event.{Event}
use Rattle.nets.specs.Rules.{IsMarking, Names, IsEvent, NetGoes, NetLeaves, StepPlace}
use Rattle.systems.specs.Design.{Design}
use Rattle.systems.specs.Design.Design.{of_terms, of_net}

-- the strings that are states, and those that are steps, of any length
abbrev pub IsState : Design → Str → Type 0
IsState (of_terms ds) s = IsTerm (length ds) s
IsState (of_net es) s = IsMarking s

abbrev pub IsStepOf : Design → Str → Type 0
IsStepOf (of_terms ds) x = IsStep x
IsStepOf (of_net es) x = IsEvent es x

-- the step x leads from the state a to the state b
abbrev pub Moves : Design → Str → Str → Str → Type 0
Moves (of_terms ds) a x b = Goes ds a x b
Moves (of_net es) a x b = NetGoes es a x b

-- The string spells a proof that shows the action.
pub record ProofShows (x : Str) (a : ℕ) : Type 0 where
  pub t : Proof
  pub step : proof_bytes t ≡ x
  pub step_sound : IsTrue (sound_proof t)
  pub action : label t ≡ a

-- It names an event of the net with the action.
pub record EventShows (es : List Event) (x : Str) (a : ℕ) : Type 0 where
  pub event : Event
  pub step : Names es x event
  pub action : event.action ≡ a

-- the step shows the action, before any renaming
abbrev pub Does : Design → Str → ℕ → Type 0
Does (of_terms ds) x a = ProofShows x a
Does (of_net es) x a = EventShows es x a

-- z is left of the step x after the step y; where nothing is, they are dependent
abbrev pub LeftOf : Design → Str → Str → Str → Type 0
LeftOf (of_terms ds) x y z = Leaves x y z
LeftOf (of_net es) x y z = NetLeaves es x y z

-- states and steps within the limits of a question
abbrev pub WithinState : Design → Str → Type 0
WithinState d s = IsState d s × (length s ≤ state_limit)

abbrev pub WithinStep : Design → Str → Type 0
WithinStep d x = IsStepOf d x × (length x ≤ step_limit)

-- The string is no state within the limit: the place where its longest beginning that begins one
-- ends.
abbrev pub NoStateAt : Design → Str → ℕ → Type 0
NoStateAt (of_terms ds) s p = StateFault (length ds) s p
NoStateAt (of_net es) s p = (WithinState (of_net es) s → ⊥) × LongestBeginning IsMarking s p

-- It is no step within the limit: the same for steps, or the first improper node of a proof.
abbrev pub NoStepAt : Design → Str → ℕ → Type 0
NoStepAt (of_terms ds) x p = StepFault x p
NoStepAt (of_net es) x p = (WithinStep (of_net es) x → ⊥) × StepPlace es x p

-- The state spells a term and the step a proof: the first node that does not fit the term that it
-- comes to.
pub record MisfitIn (ds : List Term) (a x : Str) (k : ℕ) : Type 0 where
  pub p : Term
  pub t : Proof
  pub state : term_bytes p ≡ a
  pub state_sound : IsTrue (sound_term (length ds) p)
  pub step : proof_bytes t ≡ x
  pub step_sound : IsTrue (sound_proof t)
  pub is_proper : IsTrue (proper t)
  pub misfit : First (MisfitAt (body_of ds) p t) k

-- the place in a step that does not fit a state from which it leads nowhere; an event has but one
abbrev pub StuckAt : Design → Str → Str → ℕ → Type 0
StuckAt (of_terms ds) a x k = MisfitIn ds a x k
StuckAt (of_net es) a x k = k ≡ 0
