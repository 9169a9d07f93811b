-- What terms over some definitions answer, said by the transition rules alone.
use Rattle.std.specs.Prelude.{◌≡◌, ℕ, ◌<◌, ◌≤◌, min, Bool, true, false, List, length, take, Some, None, Option, Ok, Err, Result, IsTrue, ◌↔◌}
use Rattle.byte_strings.specs.Buffer.{count, buffer_after, count_some, buffer_after_some}
use Rattle.steps.specs.declared.label.Label.{Label}
use Rattle.steps.specs.declared.fault.MaskFault.{MaskFault}
use Rattle.steps.specs.declared.fault.MaskFault.TheVariants.{Inner}
use Rattle.steps.specs.declared.fault.SystemFault.TheVariants.{NoState, NoStep, Impossible, StateTooLong, StepTooLong}
use Rattle.steps.specs.Meaning.{Str}
use Rattle.steps.specs.Laws.{state_limit, step_limit}
use Rattle.steps.specs.Answers.{told_length}
use Rattle.ccs.specs.Syntax.{Term, Proof}
use Rattle.ccs.specs.Spelling.{term_bytes, proof_bytes, sound_term, sound_proof}
use Rattle.ccs.specs.Label.{label, proper}
use Rattle.ccs.specs.Beginning.{IsTerm, IsStep, LongestBeginning}
use Rattle.ccs.specs.First.{First}
use Rattle.ccs.specs.Follow.{MisfitAt}
use Rattle.ccs.specs.FollowLaws.{Goes}
use Rattle.ccs.specs.ReadingLaws.{StateFault, StepFault}
use Rattle.ccs.specs.ResidualLaws.{Leaves}
use Rattle.ccs.specs.System.{body_of, terms_transitions, terms_independence}
use Rattle.terms.specs.declared.terms.Terms.{Terms}
use Rattle.terms.specs.Contents.{terms_of}

-- a step leads from a state to another exactly where the transition rules say so
abbrev pub MovesByRules : Terms → Type 0
MovesByRules t = (a x b : Str)
    → ((terms_transitions (terms_of t)).next a x ≡ Ok b) ↔ Goes (terms_of t) a x b

-- where a step is not possible in a state, the first node that does not fit is told
abbrev pub MisfitsByRules : Terms → Type 0
MisfitsByRules t = (p : Term) (x : Proof) (k : ℕ) → IsTrue (sound_term (length (terms_of t)) p)
    → IsTrue (sound_proof x) → IsTrue (proper x)
    → (terms_transitions (terms_of t)).next (term_bytes p) (proof_bytes x) ≡ Err k
    → First (MisfitAt (body_of (terms_of t)) p x) k

-- something is left of a step after another exactly where the rules say so
abbrev pub LeavesByRules : Terms → Type 0
LeavesByRules t = (x y z : Str) → (terms_independence.left x y ≡ Some z) ↔ Leaves x y z

-- a string is refused as a state, or as a step, at exactly the place that the rules give
abbrev pub StatePlacesByRules : Terms → Type 0
StatePlacesByRules t =
    (s : Str) (p : ℕ)
    → ((terms_transitions (terms_of t)).bad_state s ≡ Some p)
    ↔ StateFault (length (terms_of t)) s p

abbrev pub StepPlacesByRules : Terms → Type 0
StepPlacesByRules t = (x : Str) (p : ℕ)
    → ((terms_transitions (terms_of t)).bad_step x ≡ Some p) ↔ StepFault x p

-- the states and the steps that may be asked about
abbrev pub State : List Term → Str → Type 0
State ds s = IsTerm (length ds) s × (length s ≤ state_limit)

abbrev pub Step : Str → Type 0
Step x = IsStep x × (length x ≤ step_limit)

-- A string is a state, or it is none, and the longest beginning within the limit that begins one is
-- told.
pub data StateRules (ds : List Term) (s : Str) : Result (Unit {0}) MaskFault → Type 0 where
  is_state : State ds s → StateRules ds s (Ok tt)
  no_state : {p : ℕ} → (State ds s → ⊥)
      → LongestBeginning (IsTerm (length ds)) (take state_limit s) p
      → StateRules ds s (Err (Inner (NoState p)))

-- A string is a step, or it is none, and its fault is told.
pub data StepRules (x : Str) : Result (Unit {0}) MaskFault → Type 0 where
  is_step : Step x → StepRules x (Ok tt)
  no_step : {p : ℕ} → (Step x → ⊥) → StepFault x p → StepRules x (Err (Inner (NoStep p)))

-- A step shows what its proof does.
pub data LabelRules (x : Str) : Result Label MaskFault → Type 0 where
  shows : Step x → (t : Proof) → proof_bytes t ≡ x → IsTrue (sound_proof t)
      → LabelRules x (Ok (record { action = label t }))
  shows_nothing : {p : ℕ} → (Step x → ⊥) → StepFault x p → LabelRules x (Err (Inner (NoStep p)))

-- Asked for the state after a by x in a buffer of so many bytes: the one that the rules lead to, if
-- there is one that fits;
-- else the first fault, of the step before the state.
pub data NextRules (ds : List Term) (a x : Str) (room : ℕ) : Result Str MaskFault → Type 0 where
  goes : {b : Str} → Step x → State ds a → Goes ds a x b → length b ≤ min room state_limit
      → NextRules ds a x room (Ok b)
  by_no_step : {p : ℕ} → (Step x → ⊥) → StepFault x p
      → NextRules ds a x room (Err (Inner (NoStep p)))
  from_no_state : {p : ℕ} → Step x → (State ds a → ⊥)
      → LongestBeginning (IsTerm (length ds)) (take state_limit a) p
      → NextRules ds a x room (Err (Inner (NoState p)))
  misfits : {k : ℕ} → Step x → State ds a → (p : Term) (t : Proof) → term_bytes p ≡ a
      → proof_bytes t ≡ x → First (MisfitAt (body_of ds) p t) k
      → NextRules ds a x room (Err (Inner (Impossible k)))
  goes_too_far : {b : Str} → Step x → State ds a → Goes ds a x b → min room state_limit < length b
      → NextRules ds a x room (Err (Inner (StateTooLong (told_length (length b)))))

-- Asked of the steps x and y for the one step that is sought, if there is one, in a buffer of so
-- many bytes.
pub data StepSought (x y : Str) (Sought : Str → Type 0) (room : ℕ) : Result (Option Str) MaskFault
    → Type 0 where
  one : {z : Str} → Step x → Step y → Sought z → length z ≤ min room step_limit
      → StepSought x y Sought room (Ok (Some z))
  none : Step x → Step y → ((z : Str) → Sought z → ⊥) → StepSought x y Sought room (Ok None)
  first_no_step : {p : ℕ} → (Step x → ⊥) → StepFault x p
      → StepSought x y Sought room (Err (Inner (NoStep p)))
  second_no_step : {p : ℕ} → Step x → (Step y → ⊥) → StepFault y p
      → StepSought x y Sought room (Err (Inner (NoStep p)))
  one_too_long : {z : Str} → Step x → Step y → Sought z → min room step_limit < length z
      → StepSought x y Sought room (Err (Inner (StepTooLong (told_length (length z)))))

-- Steps are independent where something is left of the one after the other.
pub data IndependentRules (x y : Str) : Result Bool MaskFault → Type 0 where
  apart : Step x → Step y → (z : Str) → Leaves x y z → IndependentRules x y (Ok true)
  together : Step x → Step y → ((z : Str) → Leaves x y z → ⊥) → IndependentRules x y (Ok false)
  first_none : {p : ℕ} → (Step x → ⊥) → StepFault x p
      → IndependentRules x y (Err (Inner (NoStep p)))
  second_none : {p : ℕ} → Step x → (Step y → ⊥) → StepFault y p
      → IndependentRules x y (Err (Inner (NoStep p)))

-- An answer that the rules give is written over the front of the buffer; a refusal leaves it.
abbrev pub Written : (Result Str MaskFault → Type 0) → Result ℕ MaskFault → Str → Str → Type 0
Written Rules result old new =
    (r : Result Str MaskFault) × Rules r × (result ≡ count r) × (new ≡ buffer_after r old)

abbrev pub WrittenIf : (Result (Option Str) MaskFault → Type 0) → Result (Option ℕ) MaskFault → Str
    → Str → Type 0
WrittenIf Rules result old new = (r : Result (Option Str) MaskFault) × Rules r
    × (result ≡ count_some r) × (new ≡ buffer_after_some r old)

-- what is answered where the state after a by x is asked for, as it stands in the buffer afterwards
abbrev pub NextWritten : Terms → Str → Str → Result ℕ MaskFault → Str → Str → Type 0
NextWritten t a x result old new = Written (NextRules (terms_of t) a x (length old)) result old new
