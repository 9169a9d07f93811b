-- The history of four sheets: what each call does to them, in words of runs, and when it is refused.
use Rattle.std.specs.Prelude.{◌≡◌, ℕ, ◌+◌, ◌<◌, ◌≤◌, true, ◌≢◌, ◌⊎◌, ◌↔◌, List, [], ◌∷◌, ◌++◌, map, length, take, replicate, Some, Ok, Err, slice_index_or}
use Rattle.steps.specs.Meaning.{Str, Transitions, Independence}
use Rattle.steps.specs.Laws.{state_limit, step_limit}
use Rattle.steps.specs.Answers.{told_length}
use Rattle.steps.specs.declared.fault.MaskFault.{MaskFault}
use Rattle.steps.specs.declared.fault.MaskFault.TheVariants.{Inner}
use Rattle.steps.specs.declared.fault.SystemFault.TheVariants.{Impossible, StateTooLong, StepTooLong}
use Rattle.runs.specs.Run.{Run}
use Rattle.runs.specs.Exchange.{Extends}
use Rattle.runs.specs.Compatible.{Compatible}
use Rattle.runs.specs.Merged.{Merged, InTurn}
use Rattle.bench.specs.declared.fault.BenchFault.{BenchFault}
use Rattle.bench.specs.declared.fault.BenchFault.TheVariants.{NoSheet, WrongStanding, System, Full, NoSuchStep, Dependent, StartsDiffer, Conflict, TooMany}

-- A call names a sheet, and gives a start, a step, a place in the sheet, or another sheet.
pub data CallView : Type 0 where
  open_sheet : (sheet : ℕ) (state : Str) → CallView
  add : (sheet : ℕ) (step : Str) → CallView
  swap : (sheet place : ℕ) → CallView
  withdraw : (sheet : ℕ) → CallView
  join : (sheet other : ℕ) → CallView

-- the sheet that it may change
abbrev pub sheet_named : CallView → ℕ
sheet_named (open_sheet sheet state) = sheet
sheet_named (add sheet step) = sheet
sheet_named (swap sheet place) = sheet
sheet_named (withdraw sheet) = sheet
sheet_named (join sheet other) = sheet

-- It is answered that the sheet is open, the end of its run, that its steps were exchanged, its new length and how many steps were shared, or a refusal.
pub data AnswerView : Type 0 where
  opened : AnswerView
  ends : (state : Str) → AnswerView
  swapped : AnswerView
  joined : (length shared : ℕ) → AnswerView
  refused : (fault : BenchFault) → AnswerView

-- A sheet is blank, or holds a start and steps.
pub data Sheet : Type 0 where
  blank : Sheet
  holds : (start : Str) (steps : List Str) → Sheet

-- the sheets go by numbers from 0; past the last there are only blank ones
abbrev pub sheet_at : List Sheet → ℕ → Sheet
sheet_at sheets s = slice_index_or sheets s blank

abbrev pub four_blank : List Sheet
four_blank = replicate 4 blank

-- what a sheet holds is a run, with its end
abbrev pub Ends : Transitions → Sheet → Str → Type 0
Ends t blank b = ⊥
Ends t (holds a xs) b = Run t a xs b

abbrev pub IsRun : Transitions → Sheet → Type 0
IsRun t blank = Unit {0}
IsRun t (holds a xs) = (b : Str) × Run t a xs b

abbrev pub AllRuns : Transitions → List Sheet → Type 0
AllRuns t sheets = (s : ℕ) → IsRun t (sheet_at sheets s)

-- One of the four sheets is now the given one, and no other changed.
pub record Becomes (before after : List Sheet) (s : ℕ) (sheet : Sheet) : Type 0 where
  pub one_of_four : s < 4
  pub that : sheet_at after s ≡ sheet
  pub others : (k : ℕ) → k ≢ s → sheet_at after k ≡ sheet_at before k

module _ (t : Transitions) (i : Independence) where
  -- The reasons to refuse a call, each with the refusal that tells it.
  pub data Reason (sheets : List Sheet) : CallView → BenchFault → Type 0 where
    -- there are only four sheets, and a blank one has no run
    no_sheet : (c : CallView) → 4 ≤ sheet_named c → Reason sheets c (NoSheet 1)
    no_other : (s e : ℕ) → 4 ≤ e → Reason sheets (join s e) (NoSheet 2)
    nothing_to_add_to : (s : ℕ) (x : Str) → sheet_at sheets s ≡ blank → Reason sheets (add s x) (WrongStanding 1)
    nothing_to_swap : (s n : ℕ) → sheet_at sheets s ≡ blank → Reason sheets (swap s n) (WrongStanding 1)
    nothing_to_withdraw : (s : ℕ) → sheet_at sheets s ≡ blank → Reason sheets (withdraw s) (WrongStanding 1)
    nothing_to_join_to : (s e : ℕ) → sheet_at sheets s ≡ blank → Reason sheets (join s e) (WrongStanding 1)
    nothing_to_join : (s e : ℕ) → sheet_at sheets e ≡ blank → Reason sheets (join s e) (WrongStanding 2)
    -- a start has to be a state within the limit
    no_state : (s : ℕ) (a : Str) (f : MaskFault) → ((t.state a ≡ true) × (length a ≤ state_limit) → ⊥) → Reason sheets (open_sheet s a) (System f)
    -- a step has to be one within the limit, and possible in the end of a run of fewer than 32 steps, from where it leads to a state within the limit
    no_step : (s : ℕ) (x : Str) (f : MaskFault) → ((t.step x ≡ true) × (length x ≤ step_limit) → ⊥) → Reason sheets (add s x) (System f)
    full : (s : ℕ) (x a : Str) (xs : List Str) → sheet_at sheets s ≡ holds a xs → 32 ≤ length xs → Reason sheets (add s x) Full
    impossible : (s : ℕ) (x a : Str) (xs : List Str) (b : Str) (place : ℕ) → sheet_at sheets s ≡ holds a xs → Run t a xs b → t.next b x ≡ Err place → Reason sheets (add s x) (System (Inner (Impossible place)))
    too_long : (s : ℕ) (x a : Str) (xs : List Str) (b c : Str) (n : ℕ) → sheet_at sheets s ≡ holds a xs → Run t a xs b → t.next b x ≡ Ok c → state_limit < length c → n ≡ told_length (length c) → Reason sheets (add s x) (System (Inner (StateTooLong n)))
    -- a step has to be there to be withdrawn
    no_steps : (s : ℕ) (a : Str) → sheet_at sheets s ≡ holds a [] → Reason sheets (withdraw s) (NoSuchStep 0)
    -- two steps have to be there to be swapped, the second left of a step y after the first; y has to be within the limit, and so has the state that it leads to
    no_neighbours : (s n : ℕ) (a : Str) (xs : List Str) → sheet_at sheets s ≡ holds a xs → (n ≡ 0) ⊎ (length xs ≤ n) → Reason sheets (swap s n) (NoSuchStep n)
    dependent : (s n : ℕ) (a : Str) (front : List Str) (x z : Str) (rest : List Str) → sheet_at sheets s ≡ holds a (front ++ x ∷ z ∷ rest) → n ≡ length front + 1 → ((y : Str) → i.left y x ≢ Some z) → Reason sheets (swap s n) (Dependent n)
    swapped_too_long : (s n : ℕ) (a : Str) (front : List Str) (x z : Str) (rest : List Str) (y : Str) (k : ℕ) → sheet_at sheets s ≡ holds a (front ++ x ∷ z ∷ rest) → n ≡ length front + 1 → i.left y x ≡ Some z → step_limit < length y → k ≡ told_length (length y) → Reason sheets (swap s n) (System (Inner (StepTooLong k)))
    between_too_long : (s n : ℕ) (a : Str) (front : List Str) (x z : Str) (rest : List Str) (y b c : Str) (k : ℕ) → sheet_at sheets s ≡ holds a (front ++ x ∷ z ∷ rest) → n ≡ length front + 1 → i.left y x ≡ Some z → Run t a front b → t.next b y ≡ Ok c → state_limit < length c → k ≡ told_length (length c) → Reason sheets (swap s n) (System (Inner (StateTooLong k)))
    -- sheets that are joined have to start alike
    other_start : (s e : ℕ) (a : Str) (xs : List Str) (b : Str) (ys : List Str) → sheet_at sheets s ≡ holds a xs → sheet_at sheets e ≡ holds b ys → (a ≢ b) → Reason sheets (join s e) StartsDiffer
    -- some run has to extend both; else it is told for how many first steps of the second there is none any more
    conflict : (s e n : ℕ) (a : Str) (xs ys : List Str) → sheet_at sheets s ≡ holds a xs → sheet_at sheets e ≡ holds a ys → (Compatible t i a xs (take n ys) → ⊥) → ((k : ℕ) → k < n → Compatible t i a xs (take k ys)) → Reason sheets (join s e) (Conflict n)
    -- the least such run has to have at most 32 steps, and where it takes those of the second in their order, every state on the way has to be within the limit
    too_many : (s e n : ℕ) (a : Str) (xs ys zs : List Str) → sheet_at sheets s ≡ holds a xs → sheet_at sheets e ≡ holds a ys → Merged i xs ys zs → 32 < length zs → n ≡ length zs → Reason sheets (join s e) (TooMany n)
    on_the_way_too_long : (s e : ℕ) (a : Str) (xs ys cs : List Str) (k : ℕ) (b : Str) (n : ℕ) → sheet_at sheets s ≡ holds a xs → sheet_at sheets e ≡ holds a ys → Merged i xs ys (xs ++ cs) → InTurn i xs ys cs
        → Run t a (xs ++ take k cs) b → state_limit < length b → n ≡ told_length (length b) → ((m : ℕ) (c : Str) → m < k → Run t a (xs ++ take m cs) c → length c ≤ state_limit) → Reason sheets (join s e) (System (Inner (StateTooLong n)))

  -- What happens at a call: it is refused for a reason, and no sheet changes; or it does what it is called, on its sheet alone.
  pub data Happens (before after : List Sheet) : CallView → AnswerView → Type 0 where
    refuses : (c : CallView) (f : BenchFault) → after ≡ before → Reason before c f → Happens before after c (refused f)
    -- the sheet holds the given start and no steps
    opens : (s : ℕ) (a : Str) → Becomes before after s (holds a []) → Happens before after (open_sheet s a) opened
    -- the step comes last, behind the start and the steps from before, and the answer is the end of the run
    adds : (s : ℕ) (x a : Str) (xs : List Str) (b : Str) → sheet_at before s ≡ holds a xs → Becomes before after s (holds a (xs ++ x ∷ [])) → Run t a (xs ++ x ∷ []) b → Happens before after (add s x) (ends b)
    -- in the place of the steps x and z stand y, of which z is left after x, and what is left of x after y; the end stays, and the runs before and after extend each other
    swaps : (s n : ℕ) (a : Str) (front : List Str) (x z y x' : Str) (rest : List Str) (b : Str) → sheet_at before s ≡ holds a (front ++ x ∷ z ∷ rest) → n ≡ length front + 1 → i.left y x ≡ Some z → i.left x y ≡ Some x' → Becomes before after s (holds a (front ++ y ∷ x' ∷ rest))
        → Run t a (front ++ x ∷ z ∷ rest) b → Run t a (front ++ y ∷ x' ∷ rest) b → Extends i (front ++ y ∷ x' ∷ rest) (front ++ x ∷ z ∷ rest) → Extends i (front ++ x ∷ z ∷ rest) (front ++ y ∷ x' ∷ rest) → Happens before after (swap s n) swapped
    -- the last step is gone, and the answer is the end of what is left
    withdraws : (s : ℕ) (a : Str) (xs : List Str) (x b : Str) → sheet_at before s ≡ holds a (xs ++ x ∷ []) → Becomes before after s (holds a xs) → Run t a xs b → Happens before after (withdraw s) (ends b)
    -- the sheet holds the least run that extends both as they stood, the steps from before first, then those of the other in their order; the answer is its length, and how many steps both have
    joins : (s e : ℕ) (a : Str) (xs ys cs : List Str) (b : Str) (n k : ℕ) → sheet_at before s ≡ holds a xs → sheet_at before e ≡ holds a ys → Becomes before after s (holds a (xs ++ cs)) → Run t a (xs ++ cs) b → Merged i xs ys (xs ++ cs) → InTurn i xs ys cs
        → n ≡ length (xs ++ cs) → n + k ≡ length xs + length ys → Happens before after (join s e) (joined n k)

-- A moment: the call, its answer, and the sheets before and after.
pub record Moment : Type 0 where
  pub call : CallView
  pub answer : AnswerView
  pub before : List Sheet
  pub after : List Sheet

-- What every moment keeps.
pub record Kept (t : Transitions) (i : Independence) (m : Moment) : Type 0 where
  pub happens : Happens t i m.before m.after m.call m.answer
  -- a call that there is a reason to refuse is refused
  pub refused_where_due : (f : BenchFault) → Reason t i m.before m.call f → (g : BenchFault) × (m.answer ≡ refused g)
  -- a join of two runs with one start is refused as a conflict exactly where no run extends both, and the number told is the least n such that no run extends the one and the first n steps of the other
  pub conflicts : (s e : ℕ) (a : Str) (xs ys : List Str) → m.call ≡ join s e → sheet_at m.before s ≡ holds a xs → sheet_at m.before e ≡ holds a ys →
      ((n : ℕ) × (m.answer ≡ refused (Conflict n))) ↔ (Compatible t i a xs ys → ⊥)
  pub conflict_place : (s e : ℕ) (a : Str) (xs ys : List Str) (n : ℕ) → m.call ≡ join s e → sheet_at m.before s ≡ holds a xs → sheet_at m.before e ≡ holds a ys →
      (m.answer ≡ refused (Conflict n)) ↔ ((Compatible t i a xs (take n ys) → ⊥) × ((k : ℕ) → k < n → Compatible t i a xs (take k ys)))
  -- where a join is accepted, the opposite join, if it is accepted in its stead, ends in the same state
  pub opposite : (s e n k n' k' : ℕ) (after : List Sheet) → m.call ≡ join s e → m.answer ≡ joined n k → Happens t i m.before after (join e s) (joined n' k') → (b : Str) × Ends t (sheet_at m.after s) b × Ends t (sheet_at after e) b
  pub four_before : length m.before ≡ 4
  pub four_after : length m.after ≡ 4
  -- every sheet that is not blank is a run
  pub runs_before : AllRuns t m.before
  pub runs_after : AllRuns t m.after

-- Moments from first sheets to last ones: each is kept, and begins where the one before it ended.
pub data History (t : Transitions) (i : Independence) : List Sheet → List Moment → List Sheet → Type 0 where
  ends_here : {sheets : List Sheet} → History t i sheets [] sheets
  goes_on : {m : Moment} {ms : List Moment} {last : List Sheet} → Kept t i m → History t i m.after ms last → History t i m.before (m ∷ ms) last

-- The promise: calls on four blank sheets, their answers, and the sheets that they leave have a history.
pub record Promise (t : Transitions) (i : Independence) (calls : List CallView) (answers : List AnswerView) (sheets : List Sheet) : Type 0 where
  pub moments : List Moment
  pub history : History t i four_blank moments sheets
  pub of_the_calls : map (λ m. m.call) moments ≡ calls
  pub with_the_answers : map (λ m. m.answer) moments ≡ answers
