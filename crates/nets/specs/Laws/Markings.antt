-- Eight bytes and the marking that they stand for.
use Rattle.std.specs.Prelude.{◌≡◌, ℕ, suc, ◌+◌, ◌*◌, ◌/◌, ◌%◌, ◌^◌, ◌<◌, min, Bool, ◌&&◌, [], ◌∷◌, length, Ok, Err, ◌==◌, nat_lt, slice_index, refl, IsTrue}
use Rattle.std.proofs.Common.{⊎_elim, sym, ap, subst, ◌∙◌, arith, shr-shr}
use Rattle.std.proofs.Math.Pow.{are_bytes}
use Rattle.std.proofs.lemmas.Int.Digits.{number_more, number_lt}
use Rattle.std.proofs.lemmas.List.{take_all}
use Rattle.std.proofs.lemmas.Bool.{and_from, and_parts, cases_Bool, ltb-true, eqb-true, lt-ltb, eq-eqb, cond-true, cond-false}
use Rattle.std.specs.Int.Digits.{number_from_digits, AllBelowBase}
use Rattle.steps.specs.Meaning.{Str}
use Rattle.nets.specs.Marking.{bytes_of, eight_bytes, read_marking}
use Rattle.nets.specs.Laws.Cases.{ok_same, err_ok}

pub bytes_from : (s : Str) → ((i : ℕ) → slice_index s i < 256) → IsTrue (are_bytes s)
bytes_from [] h = refl
bytes_from (b ∷ s) h = and_from (nat_lt b 256) (are_bytes s) (lt-ltb b 256 (h 0))
    (bytes_from s (λ i. h (suc i)))

-- the number that eight bytes write, by its parts
pub spelled : (s : Str) → length s ≡ 8
    → number_from_digits 256 s
    ≡ slice_index s 0 * 2 ^ 56 + slice_index s 1 * 2 ^ 48 + slice_index s 2 * 2 ^ 40
    + slice_index s 3 * 2 ^ 32 + slice_index s 4 * 2 ^ 24 + slice_index s 5 * 2 ^ 16
    + slice_index s 6 * 2 ^ 8 + slice_index s 7
spelled s h =
    omega (
      arith,
      number_more 256 s 0 (omega arith),
      number_more 256 s 1 (omega arith),
      number_more 256 s 2 (omega arith),
      number_more 256 s 3 (omega arith),
      number_more 256 s 4 (omega arith),
      number_more 256 s 5 (omega arith),
      number_more 256 s 6 (omega arith),
      number_more 256 s 7 (omega arith),
      ap (λ (t : Str). number_from_digits 256 t) (take_all 8 s (omega arith)),
    )

pub read_eight : (s : Str) → length s ≡ 8 → ((i : ℕ) → slice_index s i < 256)
    → read_marking s ≡ Ok (number_from_digits 256 s)
read_eight s h k = cond-true (eight_bytes s) (Ok (number_from_digits 256 s))
    (Err (min (length s) 8))
    (and_from (length s == 8) (are_bytes s) (eq-eqb (length s) 8 h) (bytes_from s k))

under_from : (s : Str) → IsTrue (are_bytes s) → AllBelowBase 256 s
under_from [] h = tt
under_from (b ∷ s) h = let parts = and_parts (nat_lt b 256) (are_bytes s) h in
    (ltb-true b 256 parts.0, under_from s parts.1)

-- what is known of a string that is read as a marking
pub record Read (s : Str) (m : ℕ) : Type 0 where
  pub eight : length s ≡ 8
  pub narrow : m < 2 ^ 64

read_from : (s : Str) → IsTrue (eight_bytes s) → Read s (number_from_digits 256 s)
read_from s h =
    let parts = and_parts (length s == 8) (are_bytes s) h in
    let eight = eqb-true (length s) 8 parts.0 in
    record { eight = eight; narrow = rw eight at (number_lt 256 s (under_from s parts.1)) }

pub read_marked : (s : Str) (m : ℕ) → read_marking s ≡ Ok m → Read s m
read_marked s m e =
    ⊎_elim
    (λ h. subst (λ (n : ℕ). Read s n)
    (ok_same (sym
    (cond-true (eight_bytes s) (Ok (number_from_digits 256 s)) (Err (min (length s) 8)) h)
    ∙ e)) (read_from s h))
    (λ h. absurd (err_ok
    (sym (cond-false (eight_bytes s) (Ok (number_from_digits 256 s)) (Err (min (length s) 8)) h)
    ∙ e)))
    (cases_Bool (eight_bytes s))

number_bytes : (m : ℕ) → m < 2 ^ 64 → number_from_digits 256 (bytes_of m) ≡ m
number_bytes m h = omega (
  arith,
  shr-shr m 8 8,
  shr-shr m 16 8,
  shr-shr m 24 8,
  shr-shr m 32 8,
  shr-shr m 40 8,
  shr-shr m 48 8,
)

byte_more : (n : ℕ) {b : Bool} → IsTrue b → IsTrue (nat_lt (n % 256) 256 && b)
byte_more n {b} h = and_from (nat_lt (n % 256) 256) b (lt-ltb (n % 256) 256 (omega arith)) h

eight_from : (m : ℕ) → IsTrue (eight_bytes (bytes_of m))
eight_from m =
    byte_more (m / 2 ^ 56) (byte_more (m / 2 ^ 48) (byte_more (m / 2 ^ 40) (byte_more (m / 2 ^ 32)
    (byte_more (m / 2 ^ 24) (byte_more (m / 2 ^ 16) (byte_more (m / 2 ^ 8) (byte_more m refl)))))))

-- a marking that is written is read again
pub read_bytes : (m : ℕ) → m < 2 ^ 64 → read_marking (bytes_of m) ≡ Ok m
read_bytes m h = cond-true (eight_bytes (bytes_of m)) (Ok (number_from_digits 256 (bytes_of m)))
    (Err 8) (eight_from m) ∙ ap Ok (number_bytes m h)
