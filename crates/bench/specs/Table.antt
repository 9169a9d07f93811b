-- What a call on one of four sheets answers, and what all four hold afterwards.
use Rattle.std.specs.Prelude.{ℕ, cond, List, map, Some, None, Ok, Err, Option, Result, nat_lt, slice_index_or, slice_set}
use Rattle.bench.specs.declared.fault.BenchFault.{BenchFault}
use Rattle.bench.specs.declared.fault.BenchFault.TheVariants.{NoSheet}
use Rattle.bench.specs.declared.bench.Bench.{Bench}
use Rattle.bench.specs.declared.sheet.Standing.{Standing}
use Rattle.bench.specs.Page.{Page, page_of, blank_page}
use Rattle.bench.specs.Calls.{Outcome}

abbrev pub pages_of : Bench → List Page
pages_of b = map page_of b.sheets

-- the index of sheet s, which has to be one of the four
abbrev pub index_answer : ℕ → Result ℕ BenchFault
index_answer s = cond (nat_lt s 4) (Ok s) (Err (NoSheet 1))

-- a call on sheet s, which has to be one of the four
abbrev pub on_sheet : List Page → ℕ → (Page → Outcome) → Outcome
on_sheet ps s call = cond (nat_lt s 4) (call (slice_index_or ps s blank_page)) (Err (NoSheet 1))

-- only that sheet changes, and only where the call is accepted
abbrev pub pages_after : Outcome → List Page → ℕ → List Page
pages_after (Ok d) ps s = slice_set ps s d.page
pages_after (Err f) ps s = ps

-- the page of a sheet that may not be there
abbrev pub page_at : List Page → ℕ → Option Page
page_at ps s = cond (nat_lt s 4) (Some (slice_index_or ps s blank_page)) None

-- its standing
abbrev pub standing_of : Option Page → Option Standing
standing_of None = None
standing_of (Some p) = Some p.standing
