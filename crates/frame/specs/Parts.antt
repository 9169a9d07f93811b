-- The counted parts of a setup, taken off the front of its bytes.
use Rattle.std.specs.Prelude.{ℕ, zero, suc, ◌*◌, List, [], ◌∷◌, length, take, drop, Some, None, Option, nat_le, if◌then◌else◌}
use Rattle.std.specs.Option.{option_and_then, option_map_or}

-- counted items of a size, and what stands behind them; none where bytes are missing
abbrev pub part_answer : ℕ → List ℕ → Option (List ℕ × List ℕ)
part_answer size [] = None
part_answer size (count ∷ s) =
    if nat_le (count * size) (length s)
    then Some (take (count * size) s, drop (count * size) s)
    else None

-- what stands behind so many counted bodies; none where bytes are missing
unfoldable pub behind_answer : ℕ → List ℕ → Option (List ℕ)
behind_answer zero s = Some s
behind_answer (suc n) s = option_and_then (λ p. behind_answer n p.1) (part_answer 1 s)

-- so many counted bodies, or those before the first of which bytes are missing
unfoldable pub bodies : ℕ → List ℕ → List (List ℕ)
bodies zero s = []
bodies (suc n) s = option_map_or (λ p. p.0 ∷ bodies n p.1) (part_answer 1 s) []
