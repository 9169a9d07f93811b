-- What the types of sheets say of the sheets that they hold.
use Rattle.std.proofs.Common.{◌≡◌, Ok, Err, sym, ap, subst, ◌∙◌}
use Rattle.std.proofs.Props.{props}
use Rattle.steps.proofs.Answered.{ok_not_err}
use Rattle.bench.specs.declared.fault.BenchFault.{BenchFault}
use Rattle.bench.specs.declared.sheet.Standing.{Standing}
use Rattle.bench.specs.declared.sheet.Standing.TheVariants.{Blank, Open, Released}
use Rattle.bench.specs.declared.sheet.Sheet.{Sheet}
use Rattle.bench.specs.Page.{Page, page_of}
use Rattle.bench.specs.Calls.{Outcome, accepted, after}
use Rattle.sheets.specs.declared.any_sheet.AnySheet.{AnySheet}
use Rattle.sheets.specs.declared.any_sheet.AnySheet.TheVariants as any
use Rattle.sheets.specs.declared.open_sheet.OpenSheet.{OpenSheet}
use Rattle.sheets.specs.declared.released_sheet.ReleasedSheet.{ReleasedSheet}
use Rattle.sheets.specs.Pages.{open_page, released_page, any_page, page_answer}

-- a sheet of one of the types is not blank
pub open_not_blank : (s : OpenSheet) → (open_page s).standing ≡ Blank → ⊥
open_not_blank s e = let clash : Open ≡ Blank = sym s.open ∙ e in cc

pub released_not_blank : (s : ReleasedSheet) → (released_page s).standing ≡ Blank → ⊥
released_not_blank s e = let clash : Released ≡ Blank = sym s.released ∙ e in cc

pub never_blank : (s : AnySheet) → (any_page s).standing ≡ Blank → ⊥
never_blank (any.Open s) e = open_not_blank s.now e
never_blank (any.Released s) e = released_not_blank s.now e

-- there is one way at most to have a standing
one_way : (s : Sheet) (standing : Standing) → IsProp ((page_of s).standing ≡ standing)
one_way s standing = hlevel props

-- what such a value holds says which it is
pub same_open : (a b : OpenSheet) → a.sheet ≡ b.sheet → a ≡ b
same_open a b e = go b.sheet e b.open
  where
    go : (s : Sheet) → a.sheet ≡ s → (is : (page_of s).standing ≡ Open) → a ≡ record { sheet = s; «open» = is }
    go s e = subst (λ s. (is : (page_of s).standing ≡ Open) → a ≡ record { sheet = s; «open» = is }) e (λ is. ap (λ (is : (page_of a.sheet).standing ≡ Open). record { sheet = a.sheet; «open» = is }) (one_way a.sheet Open a.open is))

pub same_released : (a b : ReleasedSheet) → a.sheet ≡ b.sheet → a ≡ b
same_released a b e = go b.sheet e b.released
  where
    go : (s : Sheet) → a.sheet ≡ s → (is : (page_of s).standing ≡ Released) → a ≡ record { sheet = s; released = is }
    go s e = subst (λ s. (is : (page_of s).standing ≡ Released) → a ≡ record { sheet = s; released = is }) e (λ is. ap (λ (is : (page_of a.sheet).standing ≡ Released). record { sheet = a.sheet; released = is }) (one_way a.sheet Released a.released is))

-- a call that only changes the standing: the page that it leaves, or why it is refused
pub left_page : (o : Outcome) (p q : Page) → Ok tt ≡ accepted o → q ≡ after o p → Ok q ≡ page_answer o
left_page (Ok d) p q a e = ap Ok e
left_page (Err f) p q a e = ok_not_err tt f a

pub left_fault : (o : Outcome) (f : BenchFault) → Err f ≡ accepted o → Err f ≡ page_answer o
left_fault (Ok d) f a = ok_not_err tt f (sym a)
left_fault (Err g) f a = ap Err (cc)
