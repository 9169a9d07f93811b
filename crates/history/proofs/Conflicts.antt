-- When a join of two sheets is refused as a conflict. Assumes the laws of a step system.
use Rattle.std.proofs.Common.{◌≡◌, ℕ, ◌<◌, ◌≤◌, ltb, ◌⊎◌, ◌↔◌, List, map, length, get_or, take, Some, None, Ok, Err, sym, ap, ◌∙◌, subst, ap₂, inl, inr, arith}
use Rattle.std.proofs.lemmas.List.{get_or_past}
use Rattle.std.proofs.lemmas.Bool.{cases_lt, cond-true, cond-false, lt-ltb, le-ltb}
use Rattle.steps.specs.Meaning.{Str, Transitions, Independence}
use Rattle.steps.specs.Laws.{Laws}
use Rattle.runs.specs.Run.{Run}
use Rattle.runs.specs.Join as theory
use Rattle.runs.specs.Compatible.{Compatible}
use Rattle.runs.proofs.Conflict as runs
use Rattle.bench.specs.declared.fault.BenchFault.{BenchFault}
use Rattle.bench.specs.declared.fault.BenchFault.TheVariants.{Conflict}
use Rattle.bench.specs.declared.sheet.Standing.TheVariants.{Open}
use Rattle.bench.specs.Page.{Page, steps_of, blank_page}
use Rattle.bench.specs.Replay.{end_answer}
use Rattle.bench.specs.Calls.{Outcome}
use Rattle.bench.specs.Join as join_of
use Rattle.bench.specs.Table.{page_at}
use Rattle.history.specs.History.{sheet_at}
use Rattle.history.specs.History.Sheet.{holds}
use Rattle.history.specs.History.CallView.{join}
use Rattle.history.specs.History.AnswerView.{refused}
use Rattle.history.specs.Views.{page_view}
use Rattle.history.specs.Told.{outcome, answer_of, answer_told}
use Rattle.history.proofs.Replays.{replayed_run}
use Rattle.history.proofs.Sound.{AllSound, by_standing, view_blank, view_open, sheet_view}
use Rattle.history.proofs.Joining.{conflict_told}

-- a sheet is there, or there is none of that number
pub there : (ps : List Page) (e : ℕ) → ((page_at ps e ≡ None) × (4 ≤ e)) ⊎ ((page_at ps e ≡ Some (get_or ps e blank_page)) × (e < 4))
there ps e = go (cases_lt e 4)
  where
    go : (e < 4) ⊎ (4 ≤ e) → ((page_at ps e ≡ None) × (4 ≤ e)) ⊎ ((page_at ps e ≡ Some (get_or ps e blank_page)) × (e < 4))
    go (inl few) = inr (cond-true (ltb e 4) _ _ (lt-ltb e 4 few), few)
    go (inr past) = inl (cond-false (ltb e 4) _ _ (le-ltb e 4 past), past)

-- a refusal is answered exactly where the outcome is one
answered_refused : (s e : ℕ) (o : Outcome) (f : BenchFault) → (answer_of (join s e) o ≡ refused f) ↔ (o ≡ Err f)
answered_refused s e (Ok d) f = ((λ h. cc), (λ h. cc))
answered_refused s e (Err g) f = ((λ h. ap Err (cc)), (λ h. ap refused (cc)))

-- A page that is seen to hold a run: one of the four, open, and it replays.
record StandsOpen (t : Transitions) (ps : List Page) (s : ℕ) (a : Str) (xs : List Str) : Type 0 where
  few : s < 4
  is_open : (get_or ps s blank_page).standing ≡ Open
  end : Str
  replays : end_answer t (get_or ps s blank_page) ≡ Ok end
  start : (get_or ps s blank_page).start ≡ a
  steps : steps_of (get_or ps s blank_page) ≡ xs

stands_open : (t : Transitions) (ps : List Page) → length ps ≡ 4 → AllSound t ps → (s : ℕ) (a : Str) (xs : List Str) → sheet_at (map page_view ps) s ≡ holds a xs → StandsOpen t ps s a xs
stands_open t ps four sound s a xs h = go (cases_lt s 4)
  where
    seen : page_view (get_or ps s blank_page) ≡ holds a xs
    seen = sym (sheet_view ps s) ∙ h

    go : (s < 4) ⊎ (4 ≤ s) → StandsOpen t ps s a xs
    go (inr past) = let none = ap page_view (get_or_past ps s blank_page (omega arith)) in cc (seen, none)
    go (inl few) =
        by_standing (sound s) (λ blank. cc (seen, view_blank (get_or ps s blank_page) blank))
        (λ stands b r. let same = view_open (get_or ps s blank_page) stands in record { few = few; is_open = stands; end = b; replays = r; start = cc (seen, same); steps = cc (seen, same) })

module _ {t : Transitions} {i : Independence} (laws : Laws t i) (ps : List Page) (four : length ps ≡ 4) (sound : AllSound t ps) (s e : ℕ) (a : Str) (xs ys : List Str) (h : sheet_at (map page_view ps) s ≡ holds a xs) (h' : sheet_at (map page_view ps) e ≡ holds a ys) where
  on_both : outcome t i ps (join s e) ≡ join_of.joined t i (Some (get_or ps e blank_page)) (get_or ps s blank_page)
  on_both =
      let p = stands_open t ps four sound s a xs h in
      let q = stands_open t ps four sound e a ys h' in
      cond-true (ltb s 4) _ _ (lt-ltb s 4 p.few) ∙ ap (λ o. join_of.joined t i o (get_or ps s blank_page)) (cond-true (ltb e 4) (Some (get_or ps e blank_page)) None (lt-ltb e 4 q.few))

  refused_clash : (n : ℕ) → (answer_told t i ps (join s e) ≡ refused (Conflict n)) ↔ (theory.join i xs ys ≡ Err n)
  refused_clash n =
      let p = stands_open t ps four sound s a xs h in
      let q = stands_open t ps four sound e a ys h' in
      let c = conflict_told laws (get_or ps s blank_page) (get_or ps e blank_page) p.is_open q.is_open p.end q.end p.replays q.replays (p.start ∙ sym q.start) n in
      let r = answered_refused s e (outcome t i ps (join s e)) (Conflict n) in
      let steps : theory.join i (steps_of (get_or ps s blank_page)) (steps_of (get_or ps e blank_page)) ≡ theory.join i xs ys = ap₂ (theory.join i) p.steps q.steps in
      ((λ told. sym steps ∙ c.0 (sym on_both ∙ r.0 told)), (λ told. r.1 (on_both ∙ c.1 (steps ∙ told))))

  run_s : (b : Str) × Run t a xs b
  run_s =
      let p = stands_open t ps four sound s a xs h in
      (p.end, subst (λ v. Run t a v p.end) p.steps (subst (λ v. Run t v (steps_of (get_or ps s blank_page)) p.end) p.start (replayed_run laws _ _ p.end p.replays).0))

  run_e : (b : Str) × Run t a ys b
  run_e =
      let q = stands_open t ps four sound e a ys h' in
      (q.end, subst (λ v. Run t a v q.end) q.steps (subst (λ v. Run t v (steps_of (get_or ps e blank_page)) q.end) q.start (replayed_run laws _ _ q.end q.replays).0))

  -- exactly where no run extends both, at the least place
  pub conflict_answered : ((n : ℕ) × (answer_told t i ps (join s e) ≡ refused (Conflict n))) ↔ (Compatible t i a xs ys → ⊥)
  conflict_answered =
      let c = runs.conflict t i laws a xs run_s.0 ys run_e.0 run_s.1 run_e.1 in
      ((λ w. c.0 (w.0, (refused_clash w.0).0 w.1)), (λ none. let w = c.1 none in (w.0, (refused_clash w.0).1 w.1)))

  pub conflict_at : (n : ℕ) → (answer_told t i ps (join s e) ≡ refused (Conflict n)) ↔ ((Compatible t i a xs (take n ys) → ⊥) × ((k : ℕ) → k < n → Compatible t i a xs (take k ys)))
  conflict_at n =
      let c = runs.conflict_place t i laws a xs run_s.0 ys run_e.0 run_s.1 run_e.1 n in
      ((λ w. c.0 ((refused_clash n).0 w)), (λ w. (refused_clash n).1 (c.1 w)))
