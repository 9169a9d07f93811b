-- A line of hexadecimal text.
use Rattle.std.specs.Prelude.{ℕ, List, [], ◌∷◌, ◌++◌}
use Rattle.hexadecimal.specs.Hex.{hex}

-- two digits a byte, then the line end
abbrev pub line : List ℕ → List ℕ
line bs = hex bs ++ 10 ∷ []
