-- A call on one page: refused for a reason, or carried out.
use Rattle.std.proofs.Common.{◌≡◌, ℕ, ◌<◌, Bool, true, false, cond, ltb, List, map, length, set, Ok, Err, sym, refl, ap, ◌∙◌, subst}
use Rattle.std.proofs.lemmas.List.{length-set, get_or-set_same, get_or-set_other}
use Rattle.std.proofs.lemmas.Bool.{ltb-true, ltb-false}
use Rattle.steps.specs.Meaning.{Transitions, Independence}
use Rattle.bench.specs.declared.fault.BenchFault.{BenchFault}
use Rattle.bench.specs.declared.fault.BenchFault.TheVariants.{NoSheet}
use Rattle.bench.specs.Page.{Page, blank_page}
use Rattle.bench.specs.Calls.{Outcome, Done}
use Rattle.bench.specs.Table.{pages_after}
use Rattle.history.specs.History.{CallView, Sheet, sheet_named, Becomes, Reason, Happens}
use Rattle.history.specs.History.Reason.{no_sheet}
use Rattle.history.specs.History.Happens.{refuses}
use Rattle.history.specs.History.AnswerView.{refused}
use Rattle.history.specs.Views.{page_view}
use Rattle.history.specs.Told.{answer_of}
use Rattle.history.proofs.Sound.{Sound, AllSound, sheet_view, sound_set}

pub data Verdict (t : Transitions) (i : Independence) (ls : List Sheet) (c : CallView) (o : Outcome) : Type 0 where
  turned_down : (f : BenchFault) → o ≡ Err f → Reason t i ls c f → Verdict t i ls c o
  carried_out : (d : Done) → o ≡ Ok d → sheet_named c < 4 → ((f : BenchFault) → Reason t i ls c f → ⊥) → Sound t d.page → ((after : List Sheet) → Becomes ls after (sheet_named c) (page_view d.page) → Happens t i ls after c (answer_of c (Ok d))) → Verdict t i ls c o

-- a call is carried out only on one of the four sheets
pub on_one : (t : Transitions) (i : Independence) (ls : List Sheet) (c : CallView) (o : Outcome) → (sheet_named c < 4 → Verdict t i ls c o) → Verdict t i ls c (cond (ltb (sheet_named c) 4) o (Err (NoSheet 1)))
on_one t i ls c o here = go (ltb (sheet_named c) 4) refl
  where
    go : (d : Bool) → ltb (sheet_named c) 4 ≡ d → Verdict t i ls c (cond d o (Err (NoSheet 1)))
    go true e = here (ltb-true (sheet_named c) 4 e)
    go false e = turned_down (NoSheet 1) refl (no_sheet c (ltb-false (sheet_named c) 4 e))

-- What happens, and that the pages are as they should be afterwards.
pub record Settled (t : Transitions) (i : Independence) (ps : List Page) (c : CallView) (o : Outcome) : Type 0 where
  pub happens : Happens t i (map page_view ps) (map page_view (pages_after o ps (sheet_named c))) c (answer_of c o)
  pub refused_where_due : (f : BenchFault) → Reason t i (map page_view ps) c f → (g : BenchFault) × (answer_of c o ≡ refused g)
  pub four : length (pages_after o ps (sheet_named c)) ≡ 4
  pub sound : AllSound t (pages_after o ps (sheet_named c))

module _ (ps : List Page) (four : length ps ≡ 4) where
  -- one page is set
  becomes : (s : ℕ) (p : Page) → s < 4 → Becomes (map page_view ps) (map page_view (set ps s p)) s (page_view p)
  becomes s p within =
      let inside : s < length ps = rw four within in
      record {
        one_of_four = within;
        that = sheet_view (set ps s p) s ∙ ap page_view (get_or-set_same ps s p blank_page inside);
        others = λ k ne. sheet_view (set ps s p) k ∙ ap page_view (get_or-set_other ps s k p blank_page ne) ∙ sym (sheet_view ps k);
      }

  pub settled : (t : Transitions) (i : Independence) (c : CallView) (o : Outcome) → AllSound t ps → Verdict t i (map page_view ps) c o → Settled t i ps c o
  settled t i c o sound (turned_down f is why) = subst (Settled t i ps c) (sym is) (record { happens = refuses c f refl why; refused_where_due = λ _ _. (f, refl); four = four; sound = sound })
  settled t i c o sound (carried_out d is within no_reason good does) =
      subst (Settled t i ps c) (sym is)
      (record {
        happens = does _ (becomes (sheet_named c) d.page within);
        refused_where_due = λ f why. absurd (no_reason f why);
        four = length-set ps (sheet_named c) d.page ∙ four;
        sound = sound_set ps (sheet_named c) d.page (rw four within) sound good;
      })
