-- The pages of open and released sheets, and what the calls that give out or use up such a sheet are answered.
use Rattle.std.specs.Prelude.{Ok, Err, Result}
use Rattle.bench.specs.declared.fault.BenchFault.{BenchFault}
use Rattle.bench.specs.Page.{Page, page_of}
use Rattle.bench.specs.Calls.{Outcome}
use Rattle.sheets.specs.declared.any_sheet.AnySheet.{AnySheet}
use Rattle.sheets.specs.declared.any_sheet.AnySheet.TheVariants as any
use Rattle.sheets.specs.declared.open_sheet.OpenSheet.{OpenSheet}
use Rattle.sheets.specs.declared.refused.Refused.{Refused}
use Rattle.sheets.specs.declared.released_sheet.ReleasedSheet.{ReleasedSheet}

abbrev pub open_page : OpenSheet → Page
open_page s = page_of s.sheet

abbrev pub released_page : ReleasedSheet → Page
released_page s = page_of s.sheet

abbrev pub any_page : AnySheet → Page
any_page (any.Open s) = open_page s.now
any_page (any.Released s) = released_page s.now

-- the page that a call leaves, or why it is refused
abbrev pub page_answer : Outcome → Result Page BenchFault
page_answer (Ok d) = Ok d.page
page_answer (Err f) = Err f

-- the page of the sheet that is given out, or why none is
abbrev pub start_answer : Result OpenSheet BenchFault → Result Page BenchFault
start_answer (Ok s) = Ok (open_page s)
start_answer (Err f) = Err f

abbrev pub release_answer : Result ReleasedSheet (Refused OpenSheet) → Result Page BenchFault
release_answer (Ok s) = Ok (released_page s)
release_answer (Err r) = Err r.fault

abbrev pub reopen_answer : Result OpenSheet (Refused ReleasedSheet) → Result Page BenchFault
reopen_answer (Ok s) = Ok (open_page s)
reopen_answer (Err r) = Err r.fault
