-- The bits of and, or and exclusive or, and that numbers with the same bits are equal.
use Rattle.std.specs.Prelude.{◌≡◌, ℕ, zero, suc, ◌+◌, ◌*◌, ◌/◌, ◌%◌, ◌^◌, ◌<◌, min, max, ◌⊎◌}
use Rattle.std.proofs.Common.{sym, ap, ◌∙◌, inl, inr, ⊎_elim, pow-suc, one-add, arith, shr-shr}
use Rattle.std.proofs.Math.Nat.{zero-div}
use Rattle.std.proofs.Math.Arith.{digits_mod}
use Rattle.std.specs.Int.Bits.{bit_and, bit_or, bit_xor, and_step, or_step, xor_add_and}
use Rattle.std.proofs.lemmas.Nat.{and_shr, or_shr, xor_shr}
use Rattle.std.proofs.lemmas.Bool.{cases_lt}

abbrev pub bit : ℕ → ℕ → ℕ
bit n k = n / 2 ^ k % 2

pub bit_cases : (n k : ℕ) → (bit n k ≡ 0) ⊎ (bit n k ≡ 1)
bit_cases n k = ⊎_elim (λ low. inl (omega arith)) (λ high. inr (omega arith)) (cases_lt (bit n k) 1)

pub bit_zero : (k : ℕ) → bit 0 k ≡ 0
bit_zero k = ap (λ (n : ℕ). n % 2) (zero-div (2 ^ k))

pub bit_of_and : (a b k : ℕ) → bit (bit_and a b) k ≡ min (bit a k) (bit b k)
bit_of_and a b k =
    ap (λ (n : ℕ). n % 2) (and_shr a b k ∙ and_step (a / 2 ^ k) (b / 2 ^ k))
    ∙ digits_mod (bit_and (a / 2 ^ k / 2) (b / 2 ^ k / 2)) (omega arith)

pub bit_of_or : (a b k : ℕ) → bit (bit_or a b) k ≡ max (bit a k) (bit b k)
bit_of_or a b k =
    ap (λ (n : ℕ). n % 2) (or_shr a b k ∙ or_step (a / 2 ^ k) (b / 2 ^ k))
    ∙ digits_mod (bit_or (a / 2 ^ k / 2) (b / 2 ^ k / 2)) (omega arith)

odd_sum : (x d a b : ℕ) → x + d * 2 ≡ a + b → x % 2 ≡ (a % 2 + b % 2) % 2
odd_sum x d a b e = omega arith

pub bit_of_xor : (a b k : ℕ) → bit (bit_xor a b) k ≡ (bit a k + bit b k) % 2
bit_of_xor a b k =
    ap (λ (n : ℕ). n % 2) (xor_shr a b k)
    ∙ odd_sum (bit_xor (a / 2 ^ k) (b / 2 ^ k)) (bit_and (a / 2 ^ k) (b / 2 ^ k)) (a / 2 ^ k)
    (b / 2 ^ k) (xor_add_and (a / 2 ^ k) (b / 2 ^ k))

pub bit_half : (a k : ℕ) → bit (a / 2) k ≡ bit a (suc k)
bit_half a k = ap (λ (n : ℕ). n % 2) (shr-shr a 1 k ∙ ap (λ (j : ℕ). a / 2 ^ j) (one-add k))

pub half_below : (n a : ℕ) → a < 2 ^ suc n → a / 2 < 2 ^ n
half_below n a h = omega (arith, pow-suc 2 n)

-- two numbers of n bits are equal where their bits are
pub same_bits : (n a b : ℕ) → a < 2 ^ n → b < 2 ^ n → ((k : ℕ) → k < n → bit a k ≡ bit b k) → a ≡ b
same_bits zero a b p q h = omega arith
same_bits (suc n) a b p q h =
    let below : (k : ℕ) → k < n → bit (a / 2) k ≡ bit (b / 2) k =
    λ k l. bit_half a k ∙ h (suc k) (omega arith) ∙ sym (bit_half b k) in
    let halves = same_bits n (a / 2) (b / 2) (half_below n a p) (half_below n b q) below in
    omega (arith, h 0 (omega arith))
