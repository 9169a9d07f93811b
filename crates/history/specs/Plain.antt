-- Histories of plain calls, which open, add or withdraw: what each does to four sheets, in words of runs and of no exchanges.
use Rattle.std.specs.Prelude.{◌≡◌, ℕ, ◌<◌, ◌≤◌, true, List, [], ◌∷◌, ◌++◌, map, length, Ok, Err}
use Rattle.steps.specs.Meaning.{Str, Transitions, Independence}
use Rattle.steps.specs.Laws.{state_limit, step_limit}
use Rattle.runs.specs.Run.{Run}
use Rattle.bench.specs.declared.fault.BenchFault.{BenchFault}
use Rattle.bench.specs.Page.{Page}
use Rattle.history.specs.History as all
use Rattle.history.specs.History.{Sheet, sheet_at, four_blank, AllRuns, Becomes}
use Rattle.history.specs.History.Sheet.{blank, holds}
use Rattle.history.specs.History.CallView.{open_sheet as any_open_sheet, add as any_add, withdraw as any_withdraw}
use Rattle.history.specs.History.AnswerView.{opened as any_opened, ends as any_ends, refused as any_refused}
use Rattle.history.specs.Told.{answers_told, pages_told}

-- A call names a sheet, and gives a start or a step.
pub data CallView : Type 0 where
  open_sheet : (sheet : ℕ) (state : Str) → CallView
  add : (sheet : ℕ) (step : Str) → CallView
  withdraw : (sheet : ℕ) → CallView

abbrev pub sheet_named : CallView → ℕ
sheet_named (open_sheet sheet state) = sheet
sheet_named (add sheet step) = sheet
sheet_named (withdraw sheet) = sheet

-- It is answered that the sheet is open, the end of its run, or a refusal.
pub data AnswerView : Type 0 where
  opened : AnswerView
  ends : (state : Str) → AnswerView
  refused : (fault : BenchFault) → AnswerView

-- The reasons to refuse a call.
pub data Reason (t : Transitions) (sheets : List Sheet) : CallView → Type 0 where
  -- there are only four sheets, and a blank one has no run
  no_sheet : (c : CallView) → 4 ≤ sheet_named c → Reason t sheets c
  nothing_to_add_to : (s : ℕ) (x : Str) → sheet_at sheets s ≡ blank → Reason t sheets (add s x)
  nothing_to_withdraw : (s : ℕ) → sheet_at sheets s ≡ blank → Reason t sheets (withdraw s)
  -- a start has to be a state within the limit
  no_state : (s : ℕ) (a : Str) → ((t.state a ≡ true) × (length a ≤ state_limit) → ⊥) → Reason t sheets (open_sheet s a)
  -- a step has to be one within the limit, and possible in the end of a run of fewer than 32 steps, from where it leads to a state within the limit
  no_step : (s : ℕ) (x : Str) → ((t.step x ≡ true) × (length x ≤ step_limit) → ⊥) → Reason t sheets (add s x)
  full : (s : ℕ) (x a : Str) (xs : List Str) → sheet_at sheets s ≡ holds a xs → 32 ≤ length xs → Reason t sheets (add s x)
  impossible : (s : ℕ) (x a : Str) (xs : List Str) (b : Str) (place : ℕ) → sheet_at sheets s ≡ holds a xs → Run t a xs b → t.next b x ≡ Err place → Reason t sheets (add s x)
  too_long : (s : ℕ) (x a : Str) (xs : List Str) (b c : Str) → sheet_at sheets s ≡ holds a xs → Run t a xs b → t.next b x ≡ Ok c → state_limit < length c → Reason t sheets (add s x)
  -- a step has to be there to be withdrawn
  no_steps : (s : ℕ) (a : Str) → sheet_at sheets s ≡ holds a [] → Reason t sheets (withdraw s)

-- What happens at a call: it is refused for a reason, and no sheet changes; or it does what it is called, on its sheet alone.
pub data Happens (t : Transitions) (before after : List Sheet) : CallView → AnswerView → Type 0 where
  refuses : (c : CallView) (f : BenchFault) → after ≡ before → Reason t before c → Happens t before after c (refused f)
  -- the sheet holds the given start and no steps
  opens : (s : ℕ) (a : Str) → Becomes before after s (holds a []) → Happens t before after (open_sheet s a) opened
  -- the step comes last, behind the start and the steps from before, and the answer is the end of the run
  adds : (s : ℕ) (x a : Str) (xs : List Str) (b : Str) → sheet_at before s ≡ holds a xs → Becomes before after s (holds a (xs ++ x ∷ [])) → Run t a (xs ++ x ∷ []) b → Happens t before after (add s x) (ends b)
  -- the last step is gone, and the answer is the end of what is left
  withdraws : (s : ℕ) (a : Str) (xs : List Str) (x b : Str) → sheet_at before s ≡ holds a (xs ++ x ∷ []) → Becomes before after s (holds a xs) → Run t a xs b → Happens t before after (withdraw s) (ends b)

-- A moment: the call, its answer, and the sheets before and after.
pub record Moment : Type 0 where
  pub call : CallView
  pub answer : AnswerView
  pub before : List Sheet
  pub after : List Sheet

-- What every moment keeps.
pub record Kept (t : Transitions) (m : Moment) : Type 0 where
  pub happens : Happens t m.before m.after m.call m.answer
  -- a call that there is a reason to refuse is refused
  pub refused_where_due : Reason t m.before m.call → (f : BenchFault) × (m.answer ≡ refused f)
  pub four_before : length m.before ≡ 4
  pub four_after : length m.after ≡ 4
  -- every sheet that is not blank is a run
  pub runs_before : AllRuns t m.before
  pub runs_after : AllRuns t m.after

-- Moments from first sheets to last ones: each is kept, and begins where the one before it ended.
pub data History (t : Transitions) : List Sheet → List Moment → List Sheet → Type 0 where
  ends_here : {sheets : List Sheet} → History t sheets [] sheets
  goes_on : {m : Moment} {ms : List Moment} {last : List Sheet} → Kept t m → History t m.after ms last → History t m.before (m ∷ ms) last

-- The promise: calls on four blank sheets, their answers, and the sheets that they leave have a history.
pub record Promise (t : Transitions) (calls : List CallView) (answers : List AnswerView) (sheets : List Sheet) : Type 0 where
  pub moments : List Moment
  pub history : History t four_blank moments sheets
  pub of_the_calls : map (λ m. m.call) moments ≡ calls
  pub with_the_answers : map (λ m. m.answer) moments ≡ answers

-- a plain call and its answer among all
abbrev pub any_call : CallView → all.CallView
any_call (open_sheet s a) = any_open_sheet s a
any_call (add s x) = any_add s x
any_call (withdraw s) = any_withdraw s

abbrev pub any_answer : AnswerView → all.AnswerView
any_answer opened = any_opened
any_answer (ends b) = any_ends b
any_answer (refused f) = any_refused f

-- what is promised of plain calls among all is promised of them here, with the same answers and sheets
abbrev pub PlainPromised : Type 0
PlainPromised = (t : Transitions) (i : Independence) (calls : List CallView) (answers : List all.AnswerView) (sheets : List Sheet) → all.Promise t i (map any_call calls) answers sheets → (plain : List AnswerView) × (map any_answer plain ≡ answers) × Promise t calls plain sheets

-- what they are answered, and the pages that they leave, are the same whatever is independent
abbrev pub PlainTold : Type 0
PlainTold = (t : Transitions) (i j : Independence) (ps : List Page) (calls : List CallView) → (answers_told t i ps (map any_call calls) ≡ answers_told t j ps (map any_call calls)) × (pages_told t i ps (map any_call calls) ≡ pages_told t j ps (map any_call calls))
