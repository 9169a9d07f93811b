-- Calls, answers and sheets as the history sees them.
use Rattle.std.specs.Prelude.{ℕ, ◌<◌, List, map, length, Some, None, Ok, Err, Option, Result}
use Rattle.steps.specs.Meaning.{Transitions, Independence}
use Rattle.bench.specs.declared.bench.Bench.{Bench}
use Rattle.bench.specs.declared.fault.BenchFault.{BenchFault}
use Rattle.bench.specs.Table.{pages_of}
use Rattle.bench.specs.Page.{Page, steps_of}
use Rattle.bench.specs.declared.sheet.Standing.TheVariants.{Blank, Open, Released}
use Rattle.history.specs.declared.call.Call.{Call}
use Rattle.history.specs.declared.call.Call.TheVariants as call
use Rattle.history.specs.declared.call.Answer.{Answer}
use Rattle.history.specs.declared.call.Answer.TheVariants as answer
use Rattle.history.specs.History.{CallView, AnswerView, Sheet, Promise}
use Rattle.history.specs.History.CallView.{open_sheet, add, swap, withdraw, join}
use Rattle.history.specs.History.AnswerView.{opened, ends, swapped, joined, refused}
use Rattle.history.specs.History.Sheet.{blank, holds}

abbrev pub call_view : Call → CallView
call_view (call.Open sheet state) = open_sheet sheet state.now
call_view (call.Add sheet step) = add sheet step.now
call_view (call.Swap sheet place) = swap sheet place
call_view (call.Withdraw sheet) = withdraw sheet
call_view (call.Join sheet other) = join sheet other

abbrev pub answer_view : Result Answer BenchFault → AnswerView
answer_view (Ok answer.Opened) = opened
answer_view (Ok (answer.Ends state)) = ends state
answer_view (Ok answer.Swapped) = swapped
answer_view (Ok (answer.Joined len shared)) = joined len shared
answer_view (Err fault) = refused fault

-- a sheet that has a run holds it, open or released
abbrev pub page_view : Page → Sheet
page_view p = elim p.standing [ Blank ↦ blank | Open ↦ holds p.start (steps_of p) | Released ↦ holds p.start (steps_of p) ]

-- the promise of calls with room for so many answers: there is too little, or a bench is answered, and the answers and its sheets have a history
abbrev pub Promised : Transitions → Independence → List CallView → ℕ → List AnswerView → Option Bench → Type 0
Promised t i calls room answers None = room < length calls
Promised t i calls room answers (Some b) = Promise t i calls answers (map page_view (pages_of b))
