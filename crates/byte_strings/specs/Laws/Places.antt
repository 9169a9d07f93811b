-- The places of a list, of which the first hold its items and the others a blank.
use Rattle.std.specs.Prelude.{◌≡◌, ℕ, ◌-◌, ◌≤◌, List, ◌++◌, length, take, drop, replicate}
use Rattle.std.proofs.Common.{sym, ap, ◌∙◌, arith}
use Rattle.std.proofs.lemmas.List.{length-take-le, take-append-drop}

-- The length and the places are found again from the items, so a list has one form.
-- There are `len` items in front, and behind them the places are known to be blank.
pub found_again : {A I : Type 0} (make : ℕ → List A → I) (len n : ℕ) (places : List A) (blank : A)
    → len ≤ n → length places ≡ n → drop len places ≡ replicate (n - len) blank
    → make (length (take len places))
    (take len places ++ replicate (n - length (take len places)) blank)
    ≡ make len places
found_again make len n places blank few long clear =
    let size : length (take len places) ≡ len =
    length-take-le len places (omega (arith, few, long)) in
    ap (λ k. make k (take len places ++ replicate (n - k) blank)) size
    ∙ ap (λ rest. make len (take len places ++ rest)) (sym clear)
    ∙ ap (make len) (take-append-drop len places)
