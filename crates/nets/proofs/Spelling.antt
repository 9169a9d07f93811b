-- Eight bytes are read as the one marking that they spell, and a marking is written as the eight bytes that spell it.
use Rattle.std.proofs.Common.{◌≡◌, ℕ, zero, suc, ◌+◌, ◌-◌, ◌*◌, ◌/◌, ◌%◌, ◌^◌, ◌<◌, min, ◌==◌, ◌↔◌, List, [], ◌∷◌, length, Ok, Err, refl, sym, ap, ◌∙◌, subst, ⊎_elim, arith, shr-shr, All, slice_index, IsTrue, ltb}
use Rattle.std.proofs.Math.Pow.{are_bytes}
use Rattle.std.proofs.lemmas.Bool.{and_parts, cases_Bool, cases_lt, ltb-true, eqb-true, cond-true, cond-false}
use Rattle.std.proofs.lemmas.List.{get_or_past}
use Rattle.std.proofs.lemmas.List.Elements.{All-nil, All-cons}
use Rattle.std.proofs.lemmas.Grind.{get_or_default_zero}
use Rattle.std.specs.Int.Digits.{number_from_digits}
use Rattle.steps.specs.Meaning.{Str}
use Rattle.nets.specs.Marking.{Holds, bytes_of, eight_bytes, read_marking}
use Rattle.nets.specs.Laws.Bits.{bit, same_bits}
use Rattle.nets.specs.Laws.Cases.{ok_same, err_ok}
use Rattle.nets.specs.Laws.FiringLemmas.{same_bit}
use Rattle.nets.specs.Laws.Markings.{spelled, read_eight, read_marked, read_bytes}
use Rattle.nets.specs.Rules.{AreBytes, IsMarking, Spells}

-- what holds of each number below eight
below_eight : (P : ℕ → Type 0) → P 0 → P 1 → P 2 → P 3 → P 4 → P 5 → P 6 → P 7 → (k : ℕ) → k < 8 → P k
below_eight P a b c d e f g h zero l = a
below_eight P a b c d e f g h (suc zero) l = b
below_eight P a b c d e f g h (suc (suc zero)) l = c
below_eight P a b c d e f g h (suc (suc (suc zero))) l = d
below_eight P a b c d e f g h (suc (suc (suc (suc zero)))) l = e
below_eight P a b c d e f g h (suc (suc (suc (suc (suc zero))))) l = f
below_eight P a b c d e f g h (suc (suc (suc (suc (suc (suc zero)))))) l = g
below_eight P a b c d e f g h (suc (suc (suc (suc (suc (suc (suc zero))))))) l = h
below_eight P a b c d e f g h (suc (suc (suc (suc (suc (suc (suc (suc k)))))))) l = absurd (omega arith)

pub byte_below : (s : Str) → AreBytes s → (i : ℕ) → slice_index s i < 256
byte_below s h i =
    ⊎_elim (λ l. h i 0 l) (λ g. omega (arith, get_or_past s i 0 g)) (cases_lt i (length s))

pub bytes_at : (s : Str) → ((i : ℕ) → slice_index s i < 256) → AreBytes s
bytes_at s h i d l = omega (arith, h i, get_or_default_zero s i d l)

pub bytes_of_test : (s : Str) → IsTrue (are_bytes s) → AreBytes s
bytes_of_test [] h = All-nil (λ b. b < 256)
bytes_of_test (b ∷ s) h =
    let parts = and_parts (ltb b 256) (are_bytes s) h in
    All-cons (λ n. n < 256) b s (ltb-true b 256 parts.0) (bytes_of_test s parts.1)

-- a bit of the lowest byte of a number
low_bit : (n r : ℕ) → r < 8 → bit (n % 256) r ≡ bit n r
low_bit n =
    below_eight (λ r. bit (n % 256) r ≡ bit n r)
    (omega arith) (omega arith) (omega arith) (omega arith) (omega arith) (omega arith) (omega arith) (omega arith)

-- each byte of the number that eight bytes write is the one that was written
written : (s : Str) → length s ≡ 8 → AreBytes s → (j : ℕ) → j < 8
    → number_from_digits 256 s / 2 ^ (8 * j) % 256 ≡ slice_index s (7 - j)
written s e h =
    let n : ℕ = number_from_digits 256 s in
    let whole = spelled s e in
    let b0 = byte_below s h 0 in
    let b1 = byte_below s h 1 in
    let b2 = byte_below s h 2 in
    let b3 = byte_below s h 3 in
    let b4 = byte_below s h 4 in
    let b5 = byte_below s h 5 in
    let b6 = byte_below s h 6 in
    let b7 = byte_below s h 7 in
    below_eight (λ j. number_from_digits 256 s / 2 ^ (8 * j) % 256 ≡ slice_index s (7 - j))
    (omega arith) (omega arith) (omega arith) (omega arith) (omega arith) (omega arith) (omega arith) (omega arith)

-- bit c of that number is bit c % 8 of the byte at 7 - c / 8
bit_written : (s : Str) → length s ≡ 8 → AreBytes s → (c : ℕ) → c < 64
    → bit (number_from_digits 256 s) c ≡ bit (slice_index s (7 - c / 8)) (c % 8)
bit_written s e h c l =
    let n = number_from_digits 256 s in
    let split : 8 * (c / 8) + c % 8 ≡ c = omega arith in
    ap (λ (k : ℕ). n / 2 ^ k % 2) (sym split)
    ∙ ap (λ (k : ℕ). k % 2) (sym (shr-shr n (8 * (c / 8)) (c % 8)))
    ∙ sym (low_bit (n / 2 ^ (8 * (c / 8))) (c % 8) (omega arith))
    ∙ ap (λ (k : ℕ). bit k (c % 8)) (written s e h (c / 8) (omega arith))

number_spelled : (s : Str) → length s ≡ 8 → AreBytes s → Spells s (number_from_digits 256 s)
number_spelled s e h =
    record {
      state = record { eight = e; bytes = h };
      conditions_hold = λ c l. let same = bit_written s e h c l in (λ k. sym same ∙ k, λ k. same ∙ k);
      marking = (read_marked s (number_from_digits 256 s) (read_eight s e (byte_below s h))).narrow;
    }

-- what is read is what is spelled
pub read_spells : (s : Str) (m : ℕ) → read_marking s ≡ Ok m → Spells s m
read_spells s m r =
    ⊎_elim
    (λ h.
    let parts = and_parts (length s == 8) (are_bytes s) h in
    let number = number_spelled s (eqb-true (length s) 8 parts.0) (bytes_of_test s parts.1) in
    let read = cond-true (eight_bytes s) (Ok (number_from_digits 256 s)) (Err (min (length s) 8)) h in
    subst (Spells s) (ok_same (sym read ∙ r)) number)
    (λ h. absurd (err_ok
    (sym (cond-false (eight_bytes s) (Ok (number_from_digits 256 s)) (Err (min (length s) 8)) h) ∙ r)))
    (cases_Bool (eight_bytes s))

pub marking_reads : (s : Str) → IsMarking s → read_marking s ≡ Ok (number_from_digits 256 s)
marking_reads s h = read_eight s h.eight (byte_below s h.bytes)

number_of : (s : Str) (m : ℕ) → Spells s m → number_from_digits 256 s ≡ m
number_of s m h =
    let n = number_spelled s h.state.eight h.state.bytes in
    same_bits 64 (number_from_digits 256 s) m n.marking h.marking
    (λ c l. same_bit (bit (number_from_digits 256 s) c) (bit m c) (omega arith) (omega arith) (n.conditions_hold c l)
    (h.conditions_hold c l))

pub spelled_reads : (s : Str) (m : ℕ) → Spells s m → read_marking s ≡ Ok m
spelled_reads s m h = marking_reads s h.state ∙ ap Ok (number_of s m h)

-- a marking is written as the bytes that spell it
pub bytes_spell : (m : ℕ) → m < 2 ^ 64 → Spells (bytes_of m) m
bytes_spell m h = read_spells (bytes_of m) m (read_bytes m h)

eight_items : (s : Str) → length s ≡ 8
    → slice_index s 0 ∷ slice_index s 1 ∷ slice_index s 2 ∷ slice_index s 3 ∷ slice_index s 4 ∷ slice_index s 5
    ∷ slice_index s 6 ∷ slice_index s 7 ∷ [] ≡ s
eight_items [] e = absurd (omega arith)
eight_items (a ∷ []) e = absurd (omega arith)
eight_items (a ∷ b ∷ []) e = absurd (omega arith)
eight_items (a ∷ b ∷ c ∷ []) l = absurd (omega arith)
eight_items (a ∷ b ∷ c ∷ d ∷ []) l = absurd (omega arith)
eight_items (a ∷ b ∷ c ∷ d ∷ e ∷ []) l = absurd (omega arith)
eight_items (a ∷ b ∷ c ∷ d ∷ e ∷ f ∷ []) l = absurd (omega arith)
eight_items (a ∷ b ∷ c ∷ d ∷ e ∷ f ∷ g ∷ []) l = absurd (omega arith)
eight_items (a ∷ b ∷ c ∷ d ∷ e ∷ f ∷ g ∷ h ∷ []) l = refl
eight_items (a ∷ b ∷ c ∷ d ∷ e ∷ f ∷ g ∷ h ∷ i ∷ s) l = absurd (omega arith)

bytes_again : (s : Str) → IsMarking s → bytes_of (number_from_digits 256 s) ≡ s
bytes_again s h =
    let b = written s h.eight h.bytes in
    let b0 = b 7 (omega arith) in
    let b1 = b 6 (omega arith) in
    let b2 = b 5 (omega arith) in
    let b3 = b 4 (omega arith) in
    let b4 = b 3 (omega arith) in
    let b5 = b 2 (omega arith) in
    let b6 = b 1 (omega arith) in
    let b7 : number_from_digits 256 s % 256 ≡ slice_index s 7 = omega (arith, b 0 (omega arith)) in
    cc (eight_items s h.eight)

pub spelled_bytes : (s : Str) (m : ℕ) → Spells s m → bytes_of m ≡ s
spelled_bytes s m h = ap bytes_of (sym (number_of s m h)) ∙ bytes_again s h.state
