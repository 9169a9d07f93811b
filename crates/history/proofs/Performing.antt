-- Calls performed one by one, and their answers written one behind the other.
use Rattle.std.proofs.Common.{◌≡◌, ℕ, ◌+◌, ◌<◌, ◌≤◌, leb, List, ◌∷◌, ◌++◌, map, length, get_or, take, drop, set, Result, sym, ap, ◌∙◌, arith}
use Rattle.std.proofs.lemmas.List.{append-nil, append_assoc, map-append, map_push, length-map, drop-map, drop_more, take-append-drop, take_more_set, drop-set-lt, at_drop_all}
use Rattle.std.proofs.lemmas.Bool.{cond-true, le-leb}
use Rattle.std.proofs.lemmas.Grind.{drop_more_same}
use Rattle.steps.specs.Meaning.{Transitions, Independence}
use Rattle.bench.specs.declared.fault.BenchFault.{BenchFault}
use Rattle.bench.specs.Page.{Page}
use Rattle.history.specs.declared.call.Answer.{Answer}
use Rattle.history.specs.History.{CallView}
use Rattle.history.specs.Views.{answer_view}
use Rattle.history.specs.Told.{answer_told, pages_then, answers_told, pages_told, new_pages, answers_after}

-- The first n calls are performed: what is left of them leads on from the pages as all do from new ones, their answers are written, and what stands behind is as it was.
pub record SoFar (t : Transitions) (i : Independence) (cs : List CallView) (old now : List (Result Answer BenchFault)) (ps : List Page) (n : ℕ) : Type 0 where
  pub pages : pages_told t i ps (drop n cs) ≡ pages_told t i new_pages cs
  pub written : map answer_view (take n now) ++ answers_told t i ps (drop n cs) ≡ answers_told t i new_pages cs
  pub behind : drop n now ≡ drop n old

module _ {t : Transitions} {i : Independence} {cs : List CallView} {old now : List (Result Answer BenchFault)} {ps : List Page} {n : ℕ} (so_far : SoFar t i cs old now ps n) where
  -- a call more: c is the one at n
  pub one_more : (c d : CallView) (a : Result Answer BenchFault) (qs : List Page) → n < length cs → n < length now → get_or cs n d ≡ c → answer_view a ≡ answer_told t i ps c → qs ≡ pages_then t i ps c → SoFar t i cs old (set now n a) qs (n + 1)
  one_more c d a qs lt room at answer left =
      let next : drop n cs ≡ c ∷ drop (n + 1) cs = drop_more cs n d lt ∙ ap (λ v. v ∷ drop (n + 1) cs) at in
      record {
        pages = rw left (sym (ap (pages_told t i ps) next) ∙ so_far.pages);
        written = rw (take_more_set now n a room, map_push answer_view (take n now) a, append_assoc, left, answer) (sym (ap (λ l. map answer_view (take n now) ++ answers_told t i ps l) next) ∙ so_far.written);
        behind = drop-set-lt (n + 1) now n a (omega arith) ∙ drop_more_same now old n so_far.behind;
      }

  -- all calls are performed
  module _ (whole : n ≡ length cs) where
    all : length cs ≤ n
    all = omega arith

    pub all_pages : ps ≡ pages_told t i new_pages cs
    all_pages = sym (at_drop_all (pages_told t i ps) cs n all) ∙ so_far.pages

    pub all_answers : map answer_view (take n now) ≡ answers_told t i new_pages cs
    all_answers = sym (append-nil (map answer_view (take n now))) ∙ ap (λ l. map answer_view (take n now) ++ l) (sym (at_drop_all (answers_told t i ps) cs n all)) ∙ so_far.written

    -- their answers stand over the front of the old ones
    pub all_written : length cs ≤ length old → map answer_view now ≡ answers_after t i cs (map answer_view old)
    all_written room =
        ap (map answer_view) (sym (take-append-drop n now))
        ∙ map-append answer_view (take n now) (drop n now)
        ∙ ap (λ l. l ++ map answer_view (drop n now)) all_answers
        ∙ ap (λ l. answers_told t i new_pages cs ++ map answer_view l) so_far.behind
        ∙ ap (λ l. answers_told t i new_pages cs ++ l) (sym (drop-map answer_view n old))
        ∙ ap (λ k. answers_told t i new_pages cs ++ drop k (map answer_view old)) whole
        ∙ sym (cond-true (leb (length cs) (length (map answer_view old))) _ _ (le-leb _ _ (rw length-map room)))
