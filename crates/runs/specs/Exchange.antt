-- Exchanging independent neighbours in a list of steps, and when one list extends another.
use Rattle.std.specs.Prelude.{◌≡◌, List, ◌∷◌, ◌++◌, Some}
use Rattle.steps.specs.Meaning.{Str, Independence}

-- One exchange: x, and then what is left of y after it, become y, and then what is left of x after it.
pub data Exchange (i : Independence) : List Str → List Str → Type 0 where
  here : {x y x' y' : Str} {xs : List Str} → i.left x y ≡ Some x' → i.left y x ≡ Some y' → Exchange i (x ∷ y' ∷ xs) (y ∷ x' ∷ xs)
  there : {x : Str} {xs ys : List Str} → Exchange i xs ys → Exchange i (x ∷ xs) (x ∷ ys)

-- Any number of exchanges, one after the other.
pub data Exchanged (i : Independence) : List Str → List Str → Type 0 where
  none : {xs : List Str} → Exchanged i xs xs
  more : {xs ys zs : List Str} → Exchange i xs ys → Exchanged i ys zs → Exchanged i xs zs

-- r extends q: it begins with the steps of q, at once or after exchanges.
abbrev pub Extends : Independence → List Str → List Str → Type 0
Extends i r q = (c : List Str) × Exchanged i r (q ++ c)
