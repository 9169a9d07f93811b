-- A list that was made of given items.
use Rattle.std.proofs.Common.{◌≡◌, ℕ, Bool, true, false, cond, leb, List, length, Some, None, arith}
use Rattle.byte_strings.specs.Fitted.{list_within}

-- it has these items
pub fitted_is : {A : Type 0} (items held : List A) (n : ℕ) → Some held ≡ list_within n items → held ≡ items
fitted_is items held n e = go (leb (length items) n) e
  where
    go : (b : Bool) → Some held ≡ cond b (Some items) None → held ≡ items
    go true p = cc
    go false p = let z : ◌≡◌ {A = ℕ} 0 1 = cc in absurd (omega arith)
