-- The place told of a string that is read, or is not, and may go past a limit.
use Rattle.std.proofs.Common.{◌≡◌, ◌↔◌, ℕ, ◌≤◌, ◌<◌, Bool, true, false, cond, length, Some, None, Ok, Err, Option, Result, is_ok, nat_le, refl}
use Rattle.std.proofs.lemmas.Bool.{leb-true, leb-false, le-leb}
use Rattle.std.specs.Result.{result_err}
use Rattle.steps.specs.Meaning.{Str}
use Rattle.ccs.specs.System.{past}

-- nothing is told of a string within the limit, and the limit of a longer one
pub within_limit : (limit : ℕ) (s : Str) → past limit s None ≡ None → length s ≤ limit
within_limit limit s = go (nat_le (length s) limit) refl
  where
    go : (b : Bool) → nat_le (length s) limit ≡ b → cond b None (Some limit) ≡ None → length s ≤ limit
    go true f e = leb-true (length s) limit f
    go false f e = absurd (cc e)

pub past_limit : (limit : ℕ) (s : Str) (p : ℕ) → past limit s None ≡ Some p → (limit < length s) × (limit ≡ p)
past_limit limit s p = go (nat_le (length s) limit) refl
  where
    go : (b : Bool) → nat_le (length s) limit ≡ b → cond b None (Some limit) ≡ Some p → (limit < length s) × (limit ≡ p)
    go true f e = absurd (cc e)
    go false f e = (leb-false (length s) limit f, cc e)

-- no place is told exactly where a string is read and within the limit
pub no_place : {A : Type 0} (limit : ℕ) (s : Str) (r : Result A ℕ)
    → (past limit s (result_err r) ≡ None) ↔ ((is_ok r ≡ true) × (length s ≤ limit))
no_place limit s (Ok x) = (λ e. (refl, within_limit limit s e), λ h. rw (le-leb (length s) limit h.1) refl)
no_place limit s (Err k) = (λ e. absurd (cc e), λ h. absurd (cc h.0))
