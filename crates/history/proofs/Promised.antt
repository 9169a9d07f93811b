-- The history of a list of calls. Assumes the laws of a step system.
use Rattle.std.proofs.Common.{◌≡◌, ℕ, ◌<◌, ◌↔◌, List, [], ◌∷◌, map, length, get_or, take, sym, refl, ap, ◌∙◌, subst}
use Rattle.std.proofs.lemmas.List.{length-map}
use Rattle.steps.specs.Meaning.{Transitions, Independence}
use Rattle.steps.specs.Laws.{Laws}
use Rattle.runs.specs.Compatible.{Compatible}
use Rattle.bench.specs.declared.fault.BenchFault.TheVariants.{Conflict}
use Rattle.bench.specs.Table.{page_at}
use Rattle.bench.specs.Page.{Page, steps_of, blank_page}
use Rattle.history.specs.History.{CallView, AnswerView, Happens, Moment, Kept, History, Promise, IsRun, AllRuns}
use Rattle.history.specs.History.AnswerView.{joined, refused}
use Rattle.history.specs.History.CallView.{open_sheet, add, swap, withdraw, join}
use Rattle.history.specs.History.History.{ends_here, goes_on}
use Rattle.history.specs.Views.{page_view}
use Rattle.history.specs.Told.{outcome, answer_told, pages_then, answers_told, pages_told, new_pages}
use Rattle.history.proofs.Replays.{replayed_run}
use Rattle.history.proofs.Sound.{Sound, AllSound, by_standing, view_blank, view_open, sheet_view, new_sound}
use Rattle.history.proofs.Verdict.{Verdict, Settled, on_one, settled}
use Rattle.history.proofs.Opening.{opening}
use Rattle.history.proofs.Adding.{adding}
use Rattle.history.proofs.Withdrawing.{withdrawing}
use Rattle.history.proofs.Swapping.{swapping}
use Rattle.history.proofs.Joining.{joining, same_end}
use Rattle.history.proofs.Conflicts.{there, conflict_answered, conflict_at}

module _ {t : Transitions} {i : Independence} (laws : Laws t i) where
  sound_run : (p : Page) → Sound t p → IsRun t (page_view p)
  sound_run p sound = by_standing sound (λ e. subst (IsRun t) (sym (view_blank p e)) tt) (λ e b r. subst (IsRun t) (sym (view_open p e)) (b, (replayed_run laws p.start (steps_of p) b r).0))

  sound_runs : (ps : List Page) → AllSound t ps → AllRuns t (map page_view ps)
  sound_runs ps sound s = subst (IsRun t) (sym (sheet_view ps s)) (sound_run (get_or ps s blank_page) (sound s))

  verdict : (ps : List Page) → AllSound t ps → (c : CallView) → Verdict t i (map page_view ps) c (outcome t i ps c)
  verdict ps sound (open_sheet s a) = on_one t i (map page_view ps) (open_sheet s a) _ (λ within. opening laws (map page_view ps) s (get_or ps s blank_page) within (sound s) a)
  verdict ps sound (add s x) = on_one t i (map page_view ps) (add s x) _ (λ within. adding laws (map page_view ps) s (get_or ps s blank_page) within (sheet_view ps s) (sound s) x)
  verdict ps sound (swap s n) = on_one t i (map page_view ps) (swap s n) _ (λ within. swapping laws (map page_view ps) s n (get_or ps s blank_page) within (sheet_view ps s) (sound s))
  verdict ps sound (join s e) =
      on_one t i (map page_view ps) (join s e) _
      (λ within. joining laws (map page_view ps) s e (get_or ps s blank_page) (get_or ps e blank_page) within (sheet_view ps s) (sheet_view ps e) (sound s) (sound e) (page_at ps e) (there ps e))
  verdict ps sound (withdraw s) = on_one t i (map page_view ps) (withdraw s) _ (λ within. withdrawing laws (map page_view ps) s (get_or ps s blank_page) within (sheet_view ps s) (sound s))

  kept : (ps : List Page) (four : length ps ≡ 4) (sound : AllSound t ps) (c : CallView) → Settled t i ps c (outcome t i ps c) → Kept t i (record { call = c; answer = answer_told t i ps c; before = map page_view ps; after = map page_view (pages_then t i ps c) })
  kept ps four sound c now = record {
    happens = now.happens;
    refused_where_due = now.refused_where_due;
    conflicts = λ s e a xs ys is_join h h'. subst (λ v. ((n : ℕ) × (answer_told t i ps v ≡ refused (Conflict n))) ↔ (Compatible t i a xs ys → ⊥)) (sym is_join) (conflict_answered laws ps four sound s e a xs ys h h');
    conflict_place = λ s e a xs ys n is_join h h'. subst (λ v. (answer_told t i ps v ≡ refused (Conflict n)) ↔ ((Compatible t i a xs (take n ys) → ⊥) × ((k : ℕ) → k < n → Compatible t i a xs (take k ys)))) (sym is_join) (conflict_at laws ps four sound s e a xs ys h h' n);
    opposite = λ s e n k n' k' after is_join was other. same_end laws (map page_view ps) (map page_view (pages_then t i ps c)) after s e n k n' k' (subst (λ v. Happens t i (map page_view ps) (map page_view (pages_then t i ps c)) v (joined n k)) is_join (subst (Happens t i (map page_view ps) (map page_view (pages_then t i ps c)) c) was now.happens)) other;
    four_before = length-map ps page_view ∙ four;
    four_after = length-map (pages_then t i ps c) page_view ∙ now.four;
    runs_before = sound_runs ps sound;
    runs_after = sound_runs (pages_then t i ps c) now.sound;
  }

  histories : (cs : List CallView) (ps : List Page) → length ps ≡ 4 → AllSound t ps → (ms : List Moment) × History t i (map page_view ps) ms (map page_view (pages_told t i ps cs)) × (map (λ m. m.call) ms ≡ cs) × (map (λ m. m.answer) ms ≡ answers_told t i ps cs)
  histories [] ps four sound = ([], ends_here, refl, refl)
  histories (c ∷ cs) ps four sound =
      let now = settled ps four t i c (outcome t i ps c) sound (verdict ps sound c) in
      let rest = histories cs (pages_then t i ps c) now.four now.sound in
      let m : Moment = record { call = c; answer = answer_told t i ps c; before = map page_view ps; after = map page_view (pages_then t i ps c) } in
      (m ∷ rest.0, goes_on {m = m} (kept ps four sound c now) rest.1, ap (λ l. c ∷ l) rest.2, ap (λ l. answer_told t i ps c ∷ l) rest.3)

  pub promised : (cs : List CallView) (rs : List AnswerView) (ps : List Page) → rs ≡ answers_told t i new_pages cs → ps ≡ pages_told t i new_pages cs → Promise t i cs rs (map page_view ps)
  promised cs rs ps answers pages =
      let h = histories cs new_pages refl (new_sound t) in
      record { moments = h.0; history = rw pages h.1; of_the_calls = h.2; with_the_answers = h.3 ∙ sym answers }
