-- What masks and renamings make of a step system, in words of labels and listed names.
use Rattle.std.specs.Prelude.{◌≡◌, ℕ, ◌+◌, ◌⊎◌, ◌↔◌, List, [], Some, None, Ok, Err, Result, IsTrue}
use Rattle.std.specs.List.{Contains}
use Rattle.actions.specs.declared.pairs.Pair.{Pair}
use Rattle.steps.specs.declared.label.Label.{Label}
use Rattle.steps.specs.declared.fault.MaskFault.{MaskFault}
use Rattle.steps.specs.declared.fault.MaskFault.TheVariants.{Masked, Inner}
use Rattle.steps.specs.declared.fault.SystemFault.TheVariants.{NoStep}
use Rattle.steps.specs.Meaning.{Str, Transitions, Independence}
use Rattle.steps.specs.Laws.{Laws}
use Rattle.steps.specs.Answers.{state_answer, step_answer, label_answer, next_answer, independent_answer, left_answer, back_answer}
use Rattle.layers.specs.Mask.{mask_transitions, mask_independence}
use Rattle.layers.specs.Renaming.{renamed_label, renaming_transitions}

-- The action is a name or its co-name.
abbrev pub Shows : ℕ → ℕ → Type 0
Shows a n = (a ≡ n) ⊎ (a ≡ n + 64)

-- It is a listed name or the co-name of one.
abbrev pub ShowsListed : List ℕ → ℕ → Type 0
ShowsListed ns a = (n : ℕ) × Contains ns n × Shows a n

-- A mask takes away the steps that show a listed name, and no others: they lead nowhere and are
-- independent of none. States, and what a step shows, are as inside.
pub record MaskedSteps (ns : List ℕ) (t : Transitions) (i : Independence) : Type 0 where
  pub steps : (x : Str) →
      (IsTrue ((mask_transitions ns t).step x))
      ↔ ((IsTrue (t.step x)) × (ShowsListed ns (t.label x).action → ⊥))
  pub silent : (x : Str) → (t.label x).action ≡ 0 → (mask_transitions ns t).step x ≡ t.step x
  pub moves : (a x b : Str) →
      ((mask_transitions ns t).next a x ≡ Ok b)
      ↔ ((t.next a x ≡ Ok b) × (ShowsListed ns (t.label x).action → ⊥))
  pub rests : (x y z : Str) →
      ((mask_independence ns t i).left x y ≡ Some z)
      ↔ ((i.left x y ≡ Some z)
      × (ShowsListed ns (t.label x).action → ⊥)
      × (ShowsListed ns (t.label y).action → ⊥))
  pub states : (mask_transitions ns t).state ≡ t.state
  pub labels : (mask_transitions ns t).label ≡ t.label

module _ (ns : List ℕ) (t : Transitions) where
  -- The string shows a listed name.
  abbrev pub Listed : Str → Type 0
  Listed x = ShowsListed ns (t.label x).action

  -- It has the shape of a step: the system inside does not refuse it as none.
  abbrev pub Shaped : Str → Type 0
  Shaped x = t.bad_step x ≡ None

  -- What a mask answers on one step, beside what is answered inside: that it is no step, and at
  -- which place; else that it is masked, exactly if it shows a listed name or is masked inside;
  -- else the same.
  pub record AnswersOnStep {A : Type 0} (x : Str)
      (inside answer : Result A MaskFault) : Type 0 where
    pub unlisted : (Listed x → ⊥) → answer ≡ inside
    pub masked : (answer ≡ Err Masked) ↔ ((Shaped x × Listed x) ⊎ (inside ≡ Err Masked))
    pub no_step : (p : ℕ) → t.bad_step x ≡ Some p → answer ≡ Err (Inner (NoStep p))

  -- The same of two steps: that the first or the second is none comes before a mask of either.
  pub record AnswersOnBoth {A : Type 0} (x y : Str)
      (inside answer : Result A MaskFault) : Type 0 where
    pub unlisted : (Listed x → ⊥) → (Listed y → ⊥) → answer ≡ inside
    pub masked :
        (answer ≡ Err Masked)
        ↔ ((Shaped x × Shaped y × (Listed x ⊎ Listed y)) ⊎ (inside ≡ Err Masked))
    pub no_first : (p : ℕ) → t.bad_step x ≡ Some p → answer ≡ Err (Inner (NoStep p))
    pub no_second : (p : ℕ) → Shaped x → t.bad_step y ≡ Some p → answer ≡ Err (Inner (NoStep p))

-- Every question to a mask m with the independence j: of unlisted steps it answers as the system
-- inside, refusals and places included.
pub record MaskAnswers (ns : List ℕ) (t : Transitions) (i : Independence)
    (m : Transitions) (j : Independence) : Type 0 where
  pub state : (s : Str) → state_answer m s ≡ state_answer t s
  pub step : (x : Str) → AnswersOnStep ns t x (step_answer t x) (step_answer m x)
  pub label : (x : Str) → AnswersOnStep ns t x (label_answer t x) (label_answer m x)
  pub next : (a x : Str) (n : ℕ) →
      AnswersOnStep ns t x (next_answer t a x n) (next_answer m a x n)
  pub independent : (x y : Str) →
      AnswersOnBoth ns t x y (independent_answer t i x y) (independent_answer m j x y)
  pub residual : (x y : Str) (n : ℕ) →
      AnswersOnBoth ns t x y (left_answer t i x y n) (left_answer m j x y n)
  pub back : (x z : Str) (n : ℕ) →
      AnswersOnBoth ns t x z (back_answer t i x z n) (back_answer m j x z n)

-- The action becomes another: a name as its pair says, a co-name likewise; all else stays.
pub data Renames (ps : List Pair) (a c : ℕ) : Type 0 where
  name : (p : Pair) → Contains ps p → a ≡ p.from → c ≡ p.to → Renames ps a c
  co_name : (p : Pair) → Contains ps p → a ≡ p.from + 64 → c ≡ p.to + 64 → Renames ps a c
  other : ((p : Pair) → Contains ps p → Shows a p.from → ⊥) → c ≡ a → Renames ps a c

-- A renaming replaces the name that a step shows, in a co-name too, where it has a pair.
pub record RenamedLabels (ps : List Pair) (t : Transitions) : Type 0 where
  pub names : (x : Str) (p : Pair) → Contains ps p → (t.label x).action ≡ p.from →
      ((renaming_transitions ps t).label x).action ≡ p.to
  pub co_names : (x : Str) (p : Pair) → Contains ps p → (t.label x).action ≡ p.from + 64 →
      ((renaming_transitions ps t).label x).action ≡ p.to + 64
  pub others : (x : Str) → ((p : Pair) → Contains ps p → Shows (t.label x).action p.from → ⊥) →
      (renaming_transitions ps t).label x ≡ t.label x
  pub shown : (x : Str) (c : ℕ) →
      (((renaming_transitions ps t).label x).action ≡ c) ↔ Renames ps (t.label x).action c
  pub steps : (renaming_transitions ps t).step ≡ t.step
  pub moves : (renaming_transitions ps t).next ≡ t.next

-- a label that is answered, with its name replaced; a refusal is passed on
abbrev pub renamed_answer : List Pair → Result Label MaskFault → Result Label MaskFault
renamed_answer ps (Ok l) = Ok (renamed_label ps l)
renamed_answer ps (Err f) = Err f

-- Every question to a renaming m with the independence j: but for the name in a label it answers as
-- the system inside, refusals and places included.
pub record RenamingAnswers (ps : List Pair) (t : Transitions) (i : Independence)
    (m : Transitions) (j : Independence) : Type 0 where
  pub state : (s : Str) → state_answer m s ≡ state_answer t s
  pub step : (x : Str) → step_answer m x ≡ step_answer t x
  pub label : (x : Str) → label_answer m x ≡ renamed_answer ps (label_answer t x)
  pub next : (a x : Str) (n : ℕ) → next_answer m a x n ≡ next_answer t a x n
  pub independent : (x y : Str) → independent_answer m j x y ≡ independent_answer t i x y
  pub residual : (x y : Str) (n : ℕ) → left_answer m j x y n ≡ left_answer t i x y n
  pub back : (x z : Str) (n : ℕ) → back_answer m j x z n ≡ back_answer t i x z n

-- A mask over a renaming goes by the name that a step has got: one that had a listed name and got
-- another stays.
pub record MaskedRenamed (ns : List ℕ) (ps : List Pair) (t : Transitions) : Type 0 where
  pub paired : (x : Str) (p : Pair) → Contains ps p → Shows (t.label x).action p.from →
      (IsTrue ((mask_transitions ns (renaming_transitions ps t)).step x))
      ↔ ((IsTrue (t.step x)) × (Contains ns p.to → ⊥))
  pub others : (x : Str) → ((p : Pair) → Contains ps p → Shows (t.label x).action p.from → ⊥) →
      (IsTrue ((mask_transitions ns (renaming_transitions ps t)).step x))
      ↔ ((IsTrue (t.step x)) × (ShowsListed ns (t.label x).action → ⊥))

-- With nothing listed a layer changes nothing.
pub record NothingListed (t : Transitions) (i : Independence) : Type 0 where
  pub mask : mask_transitions [] t ≡ t
  pub independence : mask_independence [] t i ≡ i
  pub renaming : renaming_transitions [] t ≡ t

-- The laws hold over every system of which they hold.
pub record LawsKept (ns : List ℕ) (ps : List Pair) (t : Transitions)
    (i : Independence) : Type 0 where
  pub mask : Laws t i → Laws (mask_transitions ns t) (mask_independence ns t i)
  pub renaming : Laws t i → Laws (renaming_transitions ps t) i
