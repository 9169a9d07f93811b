-- How a string is gone through byte by byte.
use Rattle.std.proofs.Common.{◌≡◌, ℕ, ◌+◌, ◌<◌, ◌≤◌, true, false, cond, length, get_or, drop, Some, None, Ok, Err, Option, Result, sym, ap, ◌∙◌, arith}
use Rattle.std.proofs.lemmas.List.{drop_more, drop_all}
use Rattle.steps.specs.Meaning.{Str}
use Rattle.nodes.specs.declared.scan.Wanted.{Wanted}
use Rattle.nodes.specs.Whole.{behind_byte, done, one_on, whole, shifted}

pub shifted_none : (r : Result ℕ ℕ) → shifted 0 r ≡ r
unfolding shifted
shifted_none (Ok n) = ap Ok (omega arith)
shifted_none (Err p) = ap Err (omega arith)

shifted_on : (i : ℕ) (r : Result ℕ ℕ) → shifted i (one_on r) ≡ shifted (i + 1) r
unfolding shifted
shifted_on i (Ok n) = ap Ok (omega arith)
shifted_on i (Err p) = ap Err (omega arith)

module _ (fits : Wanted → ℕ → Option Wanted) where
  -- what one byte gives
  abbrev on_byte : Option Wanted → Str → Result ℕ ℕ
  on_byte o s = behind_byte o (λ v. whole fits v s)

  module _ (w : Wanted) (s : Str) (i : ℕ) (r : Result ℕ ℕ) (inv : shifted i (whole fits w (drop i s)) ≡ r) where
    pub runs_out : length s ≤ i → i ≤ length s → Err (length s) ≡ r
    unfolding shifted whole
    runs_out past within = ap Err (omega (arith, past, within))
        ∙ sym (ap (λ d. shifted i (whole fits w d)) (drop_all i s past)) ∙ inv

    at_byte : (o : Option Wanted) → i < length s → o ≡ fits w (get_or s i 0)
        → shifted i (on_byte o (drop (i + 1) s)) ≡ r
    unfolding whole
    at_byte o lt e = ap (λ o. shifted i (on_byte o (drop (i + 1) s))) e
        ∙ sym (ap (λ d. shifted i (whole fits w d)) (drop_more s i 0 lt)) ∙ inv

    pub misfit : i < length s → None ≡ fits w (get_or s i 0) → Err i ≡ r
    unfolding shifted
    misfit lt e = ap Err (omega arith) ∙ at_byte None lt e

    pub ends : i < length s → (v : Wanted) → Some v ≡ fits w (get_or s i 0) → done v ≡ true → Ok (i + 1) ≡ r
    unfolding shifted
    ends lt v e d = sym (ap (λ c. shifted i (cond c (Ok 1) (one_on (whole fits v (drop (i + 1) s))))) d)
        ∙ at_byte (Some v) lt e

    pub goes_on : i < length s → (v : Wanted) → Some v ≡ fits w (get_or s i 0) → done v ≡ false
        → shifted (i + 1) (whole fits v (drop (i + 1) s)) ≡ r
    goes_on lt v e d =
        sym (shifted_on i (whole fits v (drop (i + 1) s)))
        ∙ sym (ap (λ c. shifted i (cond c (Ok 1) (one_on (whole fits v (drop (i + 1) s))))) d) ∙ at_byte (Some v) lt e
