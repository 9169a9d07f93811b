-- Pages that the calls leave: none is released, and what an open one holds replays.
use Rattle.std.proofs.Common.{◌≡◌, ℕ, ◌<◌, ◌≤◌, ◌≢◌, ◌⊎◌, List, map, length, get_or, set, replicate, Ok, sym, refl, ap, subst, inl, inr, arith}
use Rattle.std.proofs.Math.ListN.{get_or-map}
use Rattle.std.proofs.lemmas.List.{get_or-replicate, get_or_past, get_or-set_other}
use Rattle.std.proofs.lemmas.Grind.{get_or-set_at}
use Rattle.std.proofs.lemmas.Bool.{cases_lt, cases_eq}
use Rattle.steps.specs.Meaning.{Str, Transitions}
use Rattle.bench.specs.declared.sheet.Standing.{Standing}
use Rattle.bench.specs.declared.sheet.Standing.TheVariants.{Blank, Open, Released}
use Rattle.bench.specs.Page.{Page, steps_of, blank_page}
use Rattle.bench.specs.Replay.{end_answer}
use Rattle.history.specs.History.{Sheet, sheet_at}
use Rattle.history.specs.History.Sheet.{blank, holds}
use Rattle.history.specs.Views.{page_view}

abbrev pub Stands : Transitions → Page → Standing → Type 0
Stands t p Blank = Unit {0}
Stands t p Open = (b : Str) × (end_answer t p ≡ Ok b)
Stands t p Released = ⊥

pub record Sound (t : Transitions) (p : Page) : Type 0 where
  pub long : length p.rows ≡ 32
  pub few : p.len ≤ 32
  pub stands : Stands t p p.standing

-- at every number, also past the last sheet, where a page is blank
abbrev pub AllSound : Transitions → List Page → Type 0
AllSound t ps = (s : ℕ) → Sound t (get_or ps s blank_page)

module _ {t : Transitions} {p : Page} (sound : Sound t p) where
  pub not_released : p.standing ≡ Released → ⊥
  not_released e = subst (Stands t p) e sound.stands

  -- it is blank, or open, and then it replays
  pub by_standing : {P : Type 0} → (p.standing ≡ Blank → P) → (p.standing ≡ Open → (b : Str) → end_answer t p ≡ Ok b → P) → P
  by_standing {P} on_blank on_open = go p.standing refl sound.stands
    where
      go : (st : Standing) → p.standing ≡ st → Stands t p st → P
      go Blank e s = on_blank e
      go Open e s = on_open e s.0 s.1
      go Released e s = absurd s

pub blank_not_open : (p : Page) → p.standing ≡ Blank → p.standing ≡ Open → ⊥
blank_not_open p e o = cc

viewed : Standing → Page → Sheet
viewed st p = elim st [ Blank ↦ blank | Open ↦ holds p.start (steps_of p) | Released ↦ holds p.start (steps_of p) ]

pub view_blank : (p : Page) → p.standing ≡ Blank → page_view p ≡ blank
unfolding viewed
view_blank p e = ap (λ st. viewed st p) e

pub view_open : (p : Page) → p.standing ≡ Open → page_view p ≡ holds p.start (steps_of p)
unfolding viewed
view_open p e = ap (λ st. viewed st p) e

-- a sheet of the table is seen as its page
pub sheet_view : (ps : List Page) (s : ℕ) → sheet_at (map page_view ps) s ≡ page_view (get_or ps s blank_page)
sheet_view ps s = get_or-map page_view ps s blank_page

-- one page is set
pub sound_set : {t : Transitions} (ps : List Page) (s : ℕ) (p : Page) → s < length ps → AllSound t ps → Sound t p → AllSound t (set ps s p)
sound_set {t} ps s p inside sound good k = go (cases_eq k s)
  where
    go : (k ≡ s) ⊎ (k ≢ s) → Sound t (get_or (set ps s p) k blank_page)
    go (inl here) = subst (Sound t) (sym (get_or-set_at ps s k p blank_page here inside)) good
    go (inr other) = subst (Sound t) (sym (get_or-set_other ps s k p blank_page other)) (sound k)

-- four blank pages
pub new_sound : (t : Transitions) → AllSound t (replicate 4 blank_page)
new_sound t s = subst (Sound t) (sym (is_blank (cases_lt s 4))) (record { long = refl; few = omega arith; stands = tt })
  where
    is_blank : (s < 4) ⊎ (4 ≤ s) → get_or (replicate 4 blank_page) s blank_page ≡ blank_page
    is_blank (inl few) = get_or-replicate 4 s blank_page blank_page few
    is_blank (inr past) = get_or_past (replicate 4 blank_page) s blank_page past
