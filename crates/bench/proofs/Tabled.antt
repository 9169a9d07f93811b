-- A call on one sheet of the table.
use Rattle.std.proofs.Common.{◌≡◌, ℕ, ◌<◌, Bool, true, false, cond, ltb, List, map, length, get_or, set, Ok, Err, sym, refl, ap, ◌∙◌, arith}
use Rattle.std.proofs.lemmas.List.{get_or-map, map-set, set-get_or}
use Rattle.std.proofs.lemmas.Bool.{cond-true, lt-ltb, ltb-true}
use Rattle.steps.proofs.Answered.{ok_not_err}
use Rattle.bench.specs.declared.fault.BenchFault.TheVariants.{NoSheet}
use Rattle.bench.specs.declared.sheet.Sheet.{Sheet}
use Rattle.bench.specs.Page.{Page, page_of, blank_page}
use Rattle.bench.specs.Calls.{Outcome, after}
use Rattle.bench.specs.Table.{on_sheet, pages_after, index_answer}

-- the index of a sheet is its number, and below four
index_is : (n s : ℕ) → Ok s ≡ index_answer n → (s ≡ n) × (n < 4)
index_is n s told = go (ltb n 4) refl told
  where
    go : (b : Bool) → ltb n 4 ≡ b → Ok s ≡ cond b (Ok n) (Err (NoSheet 1)) → (s ≡ n) × (n < 4)
    go true e h = (cc, ltb-true n 4 e)
    go false e h = ok_not_err s (NoSheet 1) h

-- a call on the sheet of number n, which is at s
module _ (sheets : List Sheet) (n s : ℕ) (told : Ok s ≡ index_answer n) (d : Sheet) (long : length sheets ≡ 4) where
  same : s ≡ n
  same = (index_is n s told).0

  within : n < 4
  within = (index_is n s told).1

  there : get_or (map page_of sheets) n blank_page ≡ page_of (get_or sheets s d)
  there = ap (λ k. get_or (map page_of sheets) k blank_page) (sym same) ∙ get_or-map page_of sheets s d blank_page (omega (arith, same, within, long))

  pub here : (call : Page → Outcome) → on_sheet (map page_of sheets) n call ≡ call (page_of (get_or sheets s d))
  here call = cond-true (ltb n 4) _ _ (lt-ltb n 4 within) ∙ ap call there

  put_back : (o : Outcome) → set (map page_of sheets) n (after o (page_of (get_or sheets s d))) ≡ pages_after o (map page_of sheets) n
  put_back (Ok done) = refl
  put_back (Err f) = ap (set (map page_of sheets) n) (sym there) ∙ set-get_or (map page_of sheets) n blank_page

  pub pages_then : (call : Page → Outcome) (sheet : Sheet) → page_of sheet ≡ after (call (page_of (get_or sheets s d))) (page_of (get_or sheets s d)) → map page_of (set sheets s sheet) ≡ pages_after (on_sheet (map page_of sheets) n call) (map page_of sheets) n
  pages_then call sheet e =
      map-set page_of sheets s sheet ∙ ap (λ k. set (map page_of sheets) k (page_of sheet)) same ∙ ap (set (map page_of sheets) n) e ∙ put_back (call (page_of (get_or sheets s d))) ∙ sym (ap (λ o. pages_after o (map page_of sheets) n) (here call))
