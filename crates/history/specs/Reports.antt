-- What sheets report, in words of runs: the end of a sheet, as each accepted call that reports one tells it.
use Rattle.std.specs.Prelude.{◌≡◌, ℕ, ◌≤◌, ◌≢◌, ◌↔◌, List, [], ◌∷◌, ◌++◌, length, take, Ok}
use Rattle.steps.specs.Meaning.{Str, Transitions, Independence}
use Rattle.steps.specs.Laws.{Laws, state_limit, step_limit}
use Rattle.runs.specs.Run.{Run}
use Rattle.bench.specs.Page.{Page, steps_of}
use Rattle.bench.specs.Calls.{Done, added, withdrawn}
use Rattle.bench.specs.Print.{sheet_text, printed}
use Rattle.bench.specs.Look.{looked}
use Rattle.history.specs.History.{Sheet, Ends}
use Rattle.history.specs.History.Sheet.{blank, holds}
use Rattle.history.specs.Views.{page_view}

-- what a sheet held when it had only the first k of its steps
abbrev pub first_steps : ℕ → Sheet → Sheet
first_steps k blank = blank
first_steps k (holds a xs) = holds a (take k xs)

-- A run that a replay goes along: its steps, and the states between them, are within the limits.
pub record Replays (t : Transitions) (a : Str) (xs : List Str) : Type 0 where
  pub leads : (b : Str) × Run t a xs b
  pub states : (m : ℕ) (c : Str) → Run t a (take m xs) c → length c ≤ state_limit
  pub steps : (front : List Str) (x : Str) (rest : List Str) → xs ≡ front ++ x ∷ rest → length x ≤ step_limit

-- a look at the first k steps shows b in a buffer of n bytes: the sheet has a run that replays, and so many steps, and they end in b, which fits
abbrev pub Shows : Transitions → ℕ → ℕ → Page → Str → Type 0
Shows t k n p b = (page_view p ≢ blank) × Replays t p.start (steps_of p) × (k ≤ p.len) × Ends t (first_steps k (page_view p)) b × (length b ≤ n)

-- What accepted calls on a sheet tell.
pub record Reports (t : Transitions) : Type 0 where
  -- a look tells the end of the first k steps, and changes nothing
  pub looks : (k n : ℕ) (p : Page) (d : Done) → looked t k n p ≡ Ok d → Ends t (first_steps k (page_view p)) d.answer × (d.page ≡ p)
  -- at all steps, the sheet's end
  pub looks_at_all : (n : ℕ) (p : Page) (d : Done) → looked t p.len n p ≡ Ok d → Ends t (page_view p) d.answer
  -- it is accepted exactly where it shows something
  pub looks_where : (k n : ℕ) (p : Page) (b : Str) → (looked t k n p ≡ Ok (record { answer = b; page = p })) ↔ Shows t k n p b
  -- a print is a line of 0, the sheet's length and its start, a line for each step, and a last line for the sheet's end
  pub prints : (n : ℕ) (p : Page) (d : Done) → printed t n p ≡ Ok d → (b : Str) × Ends t (page_view p) b × (d.answer ≡ sheet_text t p b) × (d.page ≡ p)
  -- an add tells the end of the run with the step behind the others, which the sheet holds afterwards: it has 32 rows, as each has
  pub adds : (x : Str) (n : ℕ) (p : Page) (d : Done) → added t x n p ≡ Ok d → Run t p.start (steps_of p ++ x ∷ []) d.answer × (length p.rows ≡ 32 → page_view d.page ≡ holds p.start (steps_of p ++ x ∷ []))
  -- a withdrawal tells the end of what the sheet holds afterwards
  pub withdrawals : (n : ℕ) (p : Page) (d : Done) → withdrawn t n p ≡ Ok d → Ends t (page_view d.page) d.answer
  -- a sheet has one end, so all tell the same
  pub one_end : (s : Sheet) (b c : Str) → Ends t s b → Ends t s c → b ≡ c

-- so it is in every step system
abbrev pub SheetsReport : Type 0
SheetsReport = (t : Transitions) (i : Independence) → Laws t i → Reports t
