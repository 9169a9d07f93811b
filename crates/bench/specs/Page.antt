-- What a sheet holds: its standing, its start, and its rows, of which the first hold its steps.
use Rattle.std.specs.Prelude.{ℕ, List, [], take, replicate}
use Rattle.steps.specs.Meaning.{Str}
use Rattle.bench.specs.declared.sheet.Standing.{Standing}
use Rattle.bench.specs.declared.sheet.Standing.TheVariants.{Blank}
use Rattle.bench.specs.declared.sheet.Sheet.{Sheet}

pub record Page : Type 0 where
  pub standing : Standing
  pub len : ℕ
  pub start : Str
  pub rows : List Str

abbrev pub page_of : Sheet → Page
page_of s = record { standing = s.head.standing; len = s.head.len; start = s.start; rows = s.rows }

abbrev pub steps_of : Page → List Str
steps_of p = take p.len p.rows

-- a sheet with no run
abbrev pub blank_page : Page
blank_page = record { standing = Blank; len = 0; start = []; rows = replicate 32 [] }
