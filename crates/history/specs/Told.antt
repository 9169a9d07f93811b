-- What each of a list of calls is answered, and the pages that they leave, as the bench tells it call by call.
use Rattle.std.specs.Prelude.{ℕ, cond, List, [], ◌∷◌, ◌++◌, length, drop, replicate, Some, None, Ok, Err, Option, nat_le, slice_index}
use Rattle.steps.specs.Meaning.{Transitions, Independence}
use Rattle.bench.specs.declared.bench.Bench.{Bench}
use Rattle.bench.specs.Page.{Page, blank_page}
use Rattle.bench.specs.Calls.{Outcome}
use Rattle.bench.specs.Calls as sheet
use Rattle.bench.specs.Swap as swap_of
use Rattle.bench.specs.Join as join_of
use Rattle.bench.specs.Table.{pages_of, on_sheet, pages_after, page_at}
use Rattle.history.specs.History.{CallView, AnswerView, sheet_named}
use Rattle.history.specs.History.CallView.{open_sheet, add, swap, withdraw, join}
use Rattle.history.specs.History.AnswerView.{opened, ends, swapped, joined, refused}

module _ (t : Transitions) (i : Independence) where
  -- states are asked for in buffers of 256 bytes
  abbrev pub outcome : List Page → CallView → Outcome
  outcome ps (open_sheet s a) = on_sheet ps s (sheet.opened t a)
  outcome ps (add s x) = on_sheet ps s (sheet.added t x 256)
  outcome ps (swap s n) = on_sheet ps s (swap_of.swapped t i n)
  outcome ps (withdraw s) = on_sheet ps s (sheet.withdrawn t 256)
  outcome ps (join s e) = on_sheet ps s (join_of.joined t i (page_at ps e))

-- a join answers two numbers
abbrev pub answer_of : CallView → Outcome → AnswerView
answer_of c (Err f) = refused f
answer_of (open_sheet s a) (Ok d) = opened
answer_of (add s x) (Ok d) = ends d.answer
answer_of (swap s n) (Ok d) = swapped
answer_of (withdraw s) (Ok d) = ends d.answer
answer_of (join s e) (Ok d) = joined (slice_index d.answer 0) (slice_index d.answer 1)

module _ (t : Transitions) (i : Independence) where
  abbrev pub answer_told : List Page → CallView → AnswerView
  answer_told ps c = answer_of c (outcome t i ps c)

  abbrev pub pages_then : List Page → CallView → List Page
  pages_then ps c = pages_after (outcome t i ps c) ps (sheet_named c)

  -- each call is performed on what the earlier ones left
  abbrev pub answers_told : List Page → List CallView → List AnswerView
  answers_told ps [] = []
  answers_told ps (c ∷ cs) = answer_told ps c ∷ answers_told (pages_then ps c) cs

  abbrev pub pages_told : List Page → List CallView → List Page
  pages_told ps [] = ps
  pages_told ps (c ∷ cs) = pages_told (pages_then ps c) cs

-- a new bench
abbrev pub new_pages : List Page
new_pages = replicate 4 blank_page

-- the pages of the bench that is answered, if one is
abbrev pub bench_view : Option Bench → Option (List Page)
bench_view None = None
bench_view (Some b) = Some (pages_of b)

-- the bench afterwards, and the answers written over the front of n places; nothing where there are too few
abbrev pub performed : Transitions → Independence → List CallView → ℕ → Option (List Page)
performed t i cs n = cond (nat_le (length cs) n) (Some (pages_told t i new_pages cs)) None

abbrev pub answers_after : Transitions → Independence → List CallView → List AnswerView → List AnswerView
answers_after t i cs old = cond (nat_le (length cs) (length old)) (answers_told t i new_pages cs ++ drop (length cs) old) old
