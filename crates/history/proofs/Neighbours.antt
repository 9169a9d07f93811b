-- Two neighbours in a list of rows, and two others in their place.
use Rattle.std.proofs.Common.{◌≡◌, ℕ, ◌+◌, ◌-◌, ◌<◌, ◌≤◌, ◌≢◌, List, [], ◌∷◌, ◌++◌, length, get_or, take, drop, set, sym, ap, ◌∙◌, ap₂, append_assoc, arith}
use Rattle.std.proofs.lemmas.List.{take-append-drop, drop_more, get_or-take, get_or_at, get_or-set_same, get_or-set_other, take-take, take_at, take-set-le, drop-take, drop-set-lt, length-set, length-take-le, length_push}
use Rattle.steps.specs.Meaning.{Str}

module _ (rows : List Str) (n len : ℕ) (above : 0 < n) (below : n < len) (room : len ≤ length rows) where
  pub split_two : take len rows ≡ take (n - 1) rows ++ get_or rows (n - 1) [] ∷ get_or rows n [] ∷ drop (n + 1) (take len rows)
  split_two =
      let l = take len rows in
      let size : length l ≡ len = length-take-le len rows room in
      let back : n - 1 + 1 ≡ n = omega arith in
      let one : drop (n - 1) l ≡ get_or l (n - 1) [] ∷ drop n l = drop_more l (n - 1) [] (omega arith) ∙ ap (λ k. get_or l (n - 1) [] ∷ drop k l) back in
      let two : drop n l ≡ get_or l n [] ∷ drop (n + 1) l = drop_more l n [] (omega arith) in
      sym (take-append-drop (n - 1) l)
      ∙ ap₂ (λ f r. f ++ r) (take-take (n - 1) len rows (omega arith)) (one ∙ ap (λ r. get_or l (n - 1) [] ∷ r) two)
      ∙ ap₂ (λ v w. take (n - 1) rows ++ v ∷ w ∷ drop (n + 1) l) (get_or-take len rows (n - 1) [] (omega arith)) (get_or-take len rows n [] below)

  pub front_long : n ≡ length (take (n - 1) rows) + 1
  front_long = omega (arith, length-take-le (n - 1) rows (omega arith))

  -- what stands behind them
  behind : drop (n + 1) (take len rows) ≡ take (len - (n + 1)) (drop (n + 1) rows)
  behind = let whole : len ≡ n + 1 + (len - (n + 1)) = omega arith in ap (λ k. drop (n + 1) (take k rows)) whole ∙ drop-take (n + 1) (len - (n + 1)) rows

module _ (rows : List Str) (n len : ℕ) (above : 0 < n) (below : n < len) (room : len ≤ length rows) (y x' : Str) where
  pub split_other : take len (set (set rows (n - 1) y) n x') ≡ take (n - 1) rows ++ y ∷ x' ∷ drop (n + 1) (take len rows)
  split_other =
      let one = set rows (n - 1) y in
      let two = set one n x' in
      let long : length two ≡ length rows = length-set one n x' ∙ length-set rows (n - 1) y in
      let room' : len ≤ length two = omega arith in
      let apart : n - 1 ≢ n = λ e. omega (arith, e, above) in
      let front : take (n - 1) two ≡ take (n - 1) rows = take-set-le (n - 1) one n x' (omega arith) ∙ take-set-le (n - 1) rows (n - 1) y (omega arith) in
      let first : get_or two (n - 1) [] ≡ y = get_or-set_other one n (n - 1) x' [] apart ∙ get_or-set_same rows (n - 1) y [] (omega arith) in
      let second : get_or two n [] ≡ x' = get_or-set_same one n x' [] (omega (arith, length-set rows (n - 1) y)) in
      let rest : drop (n + 1) (take len two) ≡ drop (n + 1) (take len rows) =
      behind two n len above below room' ∙ ap (take (len - (n + 1))) (drop-set-lt (n + 1) one n x' (omega arith) ∙ drop-set-lt (n + 1) rows (n - 1) y (omega arith)) ∙ sym (behind rows n len above below room) in
      split_two two n len above below room'
      ∙ ap₂ (λ f r. f ++ get_or two (n - 1) [] ∷ get_or two n [] ∷ r) front rest
      ∙ ap₂ (λ v w. take (n - 1) rows ++ v ∷ w ∷ drop (n + 1) (take len rows)) first second

-- a list is split at a place in one way
pub two_at : (l front : List Str) (x z : Str) (rest : List Str) (n : ℕ) → l ≡ front ++ x ∷ z ∷ rest → n ≡ length front + 1 → (front ≡ take (n - 1) l) × (x ≡ get_or l (n - 1) []) × (z ≡ get_or l n [])
two_at l front x z rest n is place =
    let long : length front ≡ n - 1 = omega arith in
    let longer : length (front ++ x ∷ []) ≡ n = length_push front x ∙ sym place in
    let other : l ≡ (front ++ x ∷ []) ++ z ∷ rest = is ∙ sym (append_assoc front (x ∷ []) (z ∷ rest)) in (
      sym (ap (take (n - 1)) is ∙ take_at front (x ∷ z ∷ rest) (n - 1) long),
      sym (ap (λ k. get_or k (n - 1) []) is ∙ get_or_at front x (z ∷ rest) [] (n - 1) long),
      sym (ap (λ k. get_or k n []) other ∙ get_or_at (front ++ x ∷ []) z rest [] n longer),
    )
