-- The whole meaning of "possible": what the program's system, a design behind a renaming behind a
-- mask, accepts, and what it refuses, in which order and at which place. In words of the rules and
-- not of the code.
use Rattle.std.specs.Prelude.{◌≡◌, ℕ, ◌<◌, ◌≤◌, min, true, false, ◌⊎◌, ◌↔◌, List, length, Some, None, Ok, Err}
use Rattle.actions.specs.declared.pairs.Pair.{Pair}
use Rattle.actions.specs.Contents.{names_of, pairs_of}
use Rattle.steps.specs.declared.label.Label.{Label}
use Rattle.steps.specs.declared.fault.MaskFault.{MaskFault}
use Rattle.steps.specs.declared.fault.MaskFault.TheVariants.{Masked, Inner}
use Rattle.steps.specs.declared.fault.SystemFault.TheVariants.{NoState, NoStep, Impossible, StateTooLong, StepTooLong}
use Rattle.steps.specs.Meaning.{Str, Transitions, Independence}
use Rattle.steps.specs.Laws.{state_limit, step_limit}
use Rattle.steps.specs.Answers.{told_length, state_answer, step_answer, label_answer, next_answer, independent_answer, left_answer, back_answer}
use Rattle.layers.specs.Promises.{ShowsListed, Renames}
use Rattle.layers.specs.declared.masks.Mask.{Mask}
use Rattle.layers.specs.declared.renamings.Renaming.{Renaming}
use Rattle.systems.specs.declared.terms_or_net.TermsOrNet.{TermsOrNet}
use Rattle.systems.specs.Design.{Design, design_of}
use Rattle.systems.specs.Layered.{transitions_of_system, independence_of_system}
use Rattle.systems.specs.Rules.{Moves, Does, LeftOf, WithinState, WithinStep, NoStateAt, NoStepAt, StuckAt}
use Rattle.nets.specs.Rules.{AreBytes}

-- a design, the pairs that rename what its steps show, and the names that a mask hides
module _ (d : Design) (ps : List Pair) (ns : List ℕ) where
  -- What the step shows: its own action with the name replaced, if a pair has it.
  pub record ShownAs (x : Str) (c : ℕ) : Type 0 where
    pub own : ℕ
    pub does : Does d x own
    pub renames : Renames ps own c

  -- The mask stops the step: it shows a listed name or the co-name of one.
  pub record Stopped (x : Str) : Type 0 where
    pub action : ℕ
    pub shown : ShownAs x action
    pub listed : ShowsListed ns action

  -- It is a step within the limit that no mask stops.
  pub record Allowed (x : Str) : Type 0 where
    pub step : WithinStep d x
    pub shown : Stopped x → ⊥

  -- Why a step is refused whatever else is asked: it is none, told with its place; else the mask
  -- stops it.
  pub data StepRefused (x : Str) : MaskFault → Type 0 where
    no_step : {p : ℕ} → NoStepAt d x p → StepRefused x (Inner (NoStep p))
    masked : WithinStep d x → Stopped x → StepRefused x Masked

  -- Why a string is refused as a state: it is none, told with its place.
  pub data StateRefused (s : Str) : MaskFault → Type 0 where
    no_state : {p : ℕ} → NoStateAt d s p → StateRefused s (Inner (NoState p))

  -- From the state a by the step x the state b follows, and fits the limit and a buffer of n bytes.
  pub record Accepted (a x : Str) (n : ℕ) (b : Str) : Type 0 where
    pub step : Allowed x
    pub state : WithinState d a
    pub moves : Moves d a x b
    pub fits : length b ≤ min n state_limit

  -- Why none does. Each reason says that those above it do not hold.
  pub data Refused (a x : Str) (n : ℕ) : MaskFault → Type 0 where
    -- no step, or masked
    step : {f : MaskFault} → StepRefused x f → Refused a x n f
    -- no state
    state : {f : MaskFault} → Allowed x → StateRefused a f → Refused a x n f
    -- not possible
    not_possible : {p : ℕ} → Allowed x → WithinState d a → ((b : Str) → Moves d a x b → ⊥) →
        StuckAt d a x p → Refused a x n (Inner (Impossible p))
    -- the state that follows is too long for the limit or the buffer: the length that it needs
    too_long : (b : Str) → Allowed x → WithinState d a → Moves d a x b →
        min n state_limit < length b →
        Refused a x n (Inner (StateTooLong (told_length (length b))))

  -- Why two steps are refused: the first is none, the second is none, the mask stops one of them.
  pub data BothRefused (x y : Str) : MaskFault → Type 0 where
    no_first : {p : ℕ} → NoStepAt d x p → BothRefused x y (Inner (NoStep p))
    no_second : {p : ℕ} → WithinStep d x → NoStepAt d y p → BothRefused x y (Inner (NoStep p))
    masked : WithinStep d x → WithinStep d y → Stopped x ⊎ Stopped y → BothRefused x y Masked

  -- the two are independent
  abbrev pub Independent : Str → Str → Type 0
  Independent x y = (z : Str) × LeftOf d x y z

  -- Of two allowed steps a third is answered, where there is one, and fits the limit and a buffer
  -- of n bytes.
  pub record StepAnswered (x y : Str) (Is : Str → Type 0) (n : ℕ) (z : Str) : Type 0 where
    pub first : Allowed x
    pub second : Allowed y
    pub is : Is z
    pub fits : length z ≤ min n step_limit

  -- There is none.
  pub record NoneAnswered (x y : Str) (Is : Str → Type 0) : Type 0 where
    pub first : Allowed x
    pub second : Allowed y
    pub none : (z : Str) → Is z → ⊥

  -- Why neither is answered: one of the two is refused; else the answer is too long for the limit
  -- or the buffer, told by the length that it needs.
  pub data AnswerRefused (x y : Str) (Is : Str → Type 0) (n : ℕ) : MaskFault → Type 0 where
    steps : {f : MaskFault} → BothRefused x y f → AnswerRefused x y Is n f
    too_long : (z : Str) → Allowed x → Allowed y → Is z → min n step_limit < length z →
        AnswerRefused x y Is n (Inner (StepTooLong (told_length (length z))))

  -- All that is asked of a system with these transitions and this independence is answered so, and
  -- refused so. Where a place in a state is told, it is told of a string of bytes.
  pub record Possible (t : Transitions) (i : Independence) : Type 0 where
    -- from the state a by the step x
    pub next : (a x b : Str) (n : ℕ) → (next_answer t a x n ≡ Ok b) ↔ Accepted a x n b
    pub next_refused : (a x : Str) (n : ℕ) (f : MaskFault) → AreBytes a →
        (next_answer t a x n ≡ Err f) ↔ Refused a x n f
    -- whether it is a state
    pub state : (s : Str) → (state_answer t s ≡ Ok tt) ↔ WithinState d s
    pub state_refused : (s : Str) (f : MaskFault) → AreBytes s →
        (state_answer t s ≡ Err f) ↔ StateRefused s f
    -- whether it is a step, and what it shows
    pub step : (x : Str) → (step_answer t x ≡ Ok tt) ↔ Allowed x
    pub step_refused : (x : Str) (f : MaskFault) → (step_answer t x ≡ Err f) ↔ StepRefused x f
    pub label : (x : Str) (l : Label) → (label_answer t x ≡ Ok l) ↔ (Allowed x × ShownAs x l.action)
    pub label_refused : (x : Str) (f : MaskFault) → (label_answer t x ≡ Err f) ↔ StepRefused x f
    -- whether two steps are independent
    pub independent : (x y : Str) →
        (independent_answer t i x y ≡ Ok true) ↔ (Allowed x × Allowed y × Independent x y)
    pub dependent : (x y : Str) →
        (independent_answer t i x y ≡ Ok false) ↔ (Allowed x × Allowed y × (Independent x y → ⊥))
    pub independent_refused : (x y : Str) (f : MaskFault) →
        (independent_answer t i x y ≡ Err f) ↔ BothRefused x y f
    -- what is left of x after y
    pub residual : (x y : Str) (n : ℕ) (z : Str) →
        (left_answer t i x y n ≡ Ok (Some z)) ↔ StepAnswered x y (LeftOf d x y) n z
    pub no_residual : (x y : Str) (n : ℕ) →
        (left_answer t i x y n ≡ Ok None) ↔ NoneAnswered x y (LeftOf d x y)
    pub residual_refused : (x y : Str) (n : ℕ) (f : MaskFault) →
        (left_answer t i x y n ≡ Err f) ↔ AnswerRefused x y (LeftOf d x y) n f
    -- the step of which z is left after x
    pub back : (x z : Str) (n : ℕ) (y : Str) →
        (back_answer t i x z n ≡ Ok (Some y)) ↔ StepAnswered x z (λ y. LeftOf d y x z) n y
    pub no_back : (x z : Str) (n : ℕ) →
        (back_answer t i x z n ≡ Ok None) ↔ NoneAnswered x z (λ y. LeftOf d y x z)
    pub back_refused : (x z : Str) (n : ℕ) (f : MaskFault) →
        (back_answer t i x z n ≡ Err f) ↔ AnswerRefused x z (λ y. LeftOf d y x z) n f

-- of every system of the program that exists
abbrev pub EverySystem : Type 0
EverySystem = (m : Mask (Renaming TermsOrNet)) →
    Possible (design_of m.system.system) (pairs_of m.system.pairs) (names_of m.names)
    (transitions_of_system m) (independence_of_system m)
