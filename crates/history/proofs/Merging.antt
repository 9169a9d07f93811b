-- Survivors of a join: within the limit, and behind the rows. Assumes the laws of a step system where it says so.
use Rattle.std.proofs.Common.{◌≡◌, ℕ, ◌+◌, ◌≤◌, List, [], ◌∷◌, ◌++◌, length, take, drop, Option, sym, ap, ◌∙◌, append_assoc, arith}
use Rattle.std.proofs.lemmas.List.{length-append, length-drop, length-take-le, take_at}
use Rattle.steps.specs.Meaning.{Str, Transitions, Independence}
use Rattle.steps.specs.Laws.{Laws}
use Rattle.runs.specs.Merged.{Merged}
use Rattle.runs.proofs.Carry.{Carries, listed}
use Rattle.runs.proofs.Carry.Carries.{through, meets, past}
use Rattle.runs.proofs.Join.{Joins}
use Rattle.runs.proofs.Join.Joins.{ends, then}
use Rattle.joins.specs.Steps.{ShortStep, ShortSteps}
use Rattle.joins.proofs.Asking.{left_short}
use Rattle.joins.proofs.Carrying.{carries_short}
use Rattle.bench.specs.Join.{written}

module _ {t : Transitions} {i : Independence} (laws : Laws t i) where
  rest_short : {y : Str} {xs : List Str} {rest : Option Str} {q : List Str} → Carries i y xs rest q → ShortStep t y → ShortSteps t (listed rest)
  rest_short through s = (s, tt)
  rest_short (meets e) s = tt
  rest_short (past {y = y} {x = x} {y' = y'} e f c) s = rest_short c (left_short laws y x y' s e)

  short_append : (xs ys : List Str) → ShortSteps t xs → ShortSteps t ys → ShortSteps t (xs ++ ys)
  short_append [] ys s r = r
  short_append (x ∷ xs) ys s r = (s.0, short_append xs ys s.1 r)

  pub joins_short : {s e added remains : List Str} → Joins i s e added remains → ShortSteps t s → ShortSteps t e → ShortSteps t added
  joins_short ends s e = tt
  joins_short (then {rest = rest} {added = added} c j) s e = short_append (listed rest) added (rest_short c e.0) (joins_short j (carries_short laws c e.0 s) e.1)

-- merging does not depend on which comes first
pub merged_opposite : {i : Independence} {xs ys zs : List Str} → Merged i xs ys zs → Merged i ys xs zs
merged_opposite m = record { extends_first = m.extends_second; extends_second = m.extends_first; least = λ r f g. m.least r g f }

-- rows with others behind the first n
module _ (rows : List Str) (n : ℕ) (added : List Str) (room : n + length added ≤ length rows) where
  front_long : length (take n rows ++ added) ≡ n + length added
  front_long = length-append (take n rows) added ∙ omega (arith, length-take-le n rows (omega arith))

  pub written_front : take (n + length added) (written rows n added) ≡ take n rows ++ added
  written_front = ap (take (n + length added)) (sym (append_assoc (take n rows) added (drop (n + length added) rows))) ∙ take_at (take n rows ++ added) (drop (n + length added) rows) (n + length added) front_long

  pub written_long : length (written rows n added) ≡ length rows
  written_long =
      ap length (sym (append_assoc (take n rows) added (drop (n + length added) rows)))
      ∙ length-append (take n rows ++ added) (drop (n + length added) rows)
      ∙ omega (arith, front_long, length-drop (n + length added) rows)
