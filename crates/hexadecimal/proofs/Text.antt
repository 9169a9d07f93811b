-- What is written and what is read, list by list; reading what was written.
use Rattle.std.proofs.Common.{◌≡◌, ℕ, suc, ◌+◌, ◌*◌, ◌/◌, ◌%◌, ◌<◌, ◌≤◌, Bool, true, false, cond, eqb, List, [], ◌∷◌, ◌++◌, map, length, get_or, take, set, Some, None, Ok, Err, Option, sym, refl, ap, ◌∙◌, subst, arith}
use Rattle.std.proofs.lemmas.List.{append_assoc, take_more, length_push, take_all, length-take, length-take-le, length-map}
use Rattle.std.proofs.lemmas.Bool.Decides.{nat_tests}
use Rattle.std.proofs.lemmas.Bool.{eq-eqb, cond-true, eqb-true}
use Rattle.std.specs.Simd.{first_chunks}
use Rattle.hexadecimal.specs.Digits.{digit_of, value_of, byte_of, capital}
use Rattle.byte_strings.specs.Buffer.{over}
use Rattle.byte_strings.proofs.Over.{over_byte}
use Rattle.hexadecimal.specs.Hex.{hex, byte_then, sound_bytes, read_answer, Spells, ReadsBack, ReadsWhatIsSpelled, CasesReadAlike}
use Rattle.hexadecimal.specs.Hex.Spells.{nothing, byte}

-- writing

pub length_hex : (bs : List ℕ) → length (hex bs) ≡ 2 * length bs
length_hex [] = refl
length_hex (b ∷ bs) = omega (arith, length_hex bs)

pub hex_append : (xs ys : List ℕ) → hex (xs ++ ys) ≡ hex xs ++ hex ys
hex_append [] ys = refl
hex_append (x ∷ xs) ys = ap (λ t. digit_of (x / 16) ∷ digit_of (x % 16) ∷ t) (hex_append xs ys)

-- the loop's step: the digits of one byte more
pub write_more : (bs o now : List ℕ) (i : ℕ) → i < length bs → 2 * length bs ≤ length o → now ≡ over (hex (take i bs)) o
    → set (set now (2 * i) (digit_of (get_or bs i 0 / 16))) (2 * i + 1) (digit_of (get_or bs i 0 % 16))
    ≡ over (hex (take (i + 1) bs)) o
write_more bs o now i h room e =
    let w = hex (take i bs) in
    let b = get_or bs i 0 in
    let long : length w ≡ 2 * i = length_hex (take i bs) ∙ ap (λ k. 2 * k) (length-take-le i bs (omega arith)) in
    let high = over_byte w o (digit_of (b / 16)) (2 * i) long (omega arith) in
    let low = over_byte (w ++ digit_of (b / 16) ∷ []) o (digit_of (b % 16)) (2 * i + 1)
    (length_push w (digit_of (b / 16)) ∙ ap (λ k. k + 1) long) (omega arith) in
    let both = append_assoc w (digit_of (b / 16) ∷ []) (digit_of (b % 16) ∷ []) in
    let more : hex (take (i + 1) bs) ≡ w ++ digit_of (b / 16) ∷ digit_of (b % 16) ∷ [] = ap hex (take_more bs i 0 h)
    ∙ hex_append (take i bs) (b ∷ []) in
    cc

-- reading

-- the bytes that pairs of characters spell, up to the first that spells none
abbrev pub of_pairs : List (List ℕ) → List ℕ
of_pairs [] = []
of_pairs (p ∷ ps) = byte_then (byte_of (get_or p 0 0) (get_or p 1 0)) (of_pairs ps)

pub sound_pairs : (s : List ℕ) → sound_bytes s ≡ of_pairs (first_chunks 2 (length s / 2) s)
sound_pairs [] = refl
sound_pairs (a ∷ []) = refl
sound_pairs (a ∷ b ∷ s) =
    let half : length (a ∷ b ∷ s) / 2 ≡ suc (length s / 2) = omega arith in
    rw half (ap (byte_then (byte_of a b)) (sound_pairs s))

-- what a line spells

pub sound_half : (s : List ℕ) → 2 * length (sound_bytes s) ≤ length s
sound_half [] = omega arith
sound_half (a ∷ []) = omega arith
sound_half (a ∷ b ∷ s) = half (byte_of a b) (sound_half s)
  where
    half : (o : Option ℕ) → 2 * length (sound_bytes s) ≤ length s
        → 2 * length (byte_then o (sound_bytes s)) ≤ length (a ∷ b ∷ s)
    half None h = omega arith
    half (Some v) h = omega arith

-- the bytes that are read are the whole line, where their number is half its length
pub whole : (s : List ℕ) (n : ℕ) → length s ≡ 2 * length (take n (sound_bytes s))
    → (take n (sound_bytes s) ≡ sound_bytes s) × (length (sound_bytes s) ≤ n)
whole s n e =
    let half = sound_half s in
    let fits : length (sound_bytes s) ≤ n = omega (arith, length-take n (sound_bytes s)) in
    (take_all n (sound_bytes s) fits, fits)

pub spelled : (s : List ℕ) → length s ≡ 2 * length (sound_bytes s) → Spells s (sound_bytes s)
spelled [] e = nothing
spelled (a ∷ []) e = absurd (omega arith)
spelled (a ∷ b ∷ s) e = pair (byte_of a b) refl e (λ h. spelled s h)
  where
    pair : (o : Option ℕ) → byte_of a b ≡ o → length (a ∷ b ∷ s) ≡ 2 * length (byte_then o (sound_bytes s))
        → (length s ≡ 2 * length (sound_bytes s) → Spells s (sound_bytes s))
        → Spells (a ∷ b ∷ s) (byte_then o (sound_bytes s))
    pair None is h more = absurd (omega arith)
    pair (Some v) is h more = byte is (more (omega arith))

pub spells_sound : {s bs : List ℕ} → Spells s bs → (sound_bytes s ≡ bs) × (length s ≡ 2 * length bs)
spells_sound nothing = (refl, refl)
spells_sound (byte {a} {b} {v} {s} {bs} is more) =
    let (same, len) = spells_sound more in
    (ap (λ o. byte_then o (sound_bytes s)) is ∙ ap (λ t. v ∷ t) same, omega arith)

pub reads_spelled : (s bs : List ℕ) (n : ℕ) → Spells s bs → length bs ≤ n → read_answer s n ≡ Ok bs
reads_spelled s bs n h fits =
    let (same, len) = spells_sound h in
    let t : take n (sound_bytes s) ≡ bs = ap (take n) same ∙ take_all n bs fits in
    let b : eqb (length s) (2 * length bs) ≡ true = eq-eqb _ _ len in
    rw t (cond-true (eqb (length s) (2 * length bs)) (Ok bs) (Err (length bs)) b)

pub spells_read : (s bs : List ℕ) (n : ℕ) → read_answer s n ≡ Ok bs → Spells s bs × (length bs ≤ n)
spells_read s bs n e = cases (eqb (length s) (2 * length (take n (sound_bytes s)))) refl e
  where
    cases : (t : Bool) → eqb (length s) (2 * length (take n (sound_bytes s))) ≡ t
        → cond t (Ok (take n (sound_bytes s))) (Err (length (take n (sound_bytes s)))) ≡ Ok bs
        → Spells s bs × (length bs ≤ n)
    cases false is h = let z : ◌≡◌ {A = ℕ} 0 1 = cc in absurd (omega arith)
    cases true is h =
        let same : take n (sound_bytes s) ≡ bs = cc in
        let len : length s ≡ 2 * length (take n (sound_bytes s)) = eqb-true _ _ is in
        let (all, fits) = whole s n len in
        let got : sound_bytes s ≡ bs = sym all ∙ same in
        (subst (λ t. Spells s t) got (spelled s (len ∙ ap (λ t. 2 * length t) all)), subst (λ t. length t ≤ n) got fits)

-- A line is read as bytes exactly where it spells them. Forward: the answer is Ok only where the sound bytes
-- are half as many as the characters, so nothing is left over and nothing was cut off, and by induction on the
-- line they spell it. Back: by induction on the spelling, all bytes are sound and each has two characters.
pub reads_what_is_spelled : ReadsWhatIsSpelled
reads_what_is_spelled s bs n = (spells_read s bs n, λ h. reads_spelled s bs n h.0 h.1)

-- reading what was written

value_of_digit : (v : ℕ) → v < 16 → value_of (digit_of v) ≡ Some v
value_of_digit v h = grind (arith, nat_tests)

byte_of_digits : (b : ℕ) → b < 256 → byte_of (digit_of (b / 16)) (digit_of (b % 16)) ≡ Some b
byte_of_digits b h =
    let high : value_of (digit_of (b / 16)) ≡ Some (b / 16) = value_of_digit (b / 16) (omega arith) in
    let low : value_of (digit_of (b % 16)) ≡ Some (b % 16) = value_of_digit (b % 16) (omega arith) in
    let sum : 16 * (b / 16) + b % 16 ≡ b = omega arith in
    rw (high, low, sum) refl

pub spells_hex : (bs : List ℕ) → ((k : ℕ) → get_or bs k 0 < 256) → Spells (hex bs) bs
spells_hex [] small = nothing
spells_hex (b ∷ bs) small = byte (byte_of_digits b (small 0)) (spells_hex bs (λ k. small (suc k)))

-- What is written spells the bytes, each digit having the value that it was made of, so it is read back.
pub reads_back : (bs : List ℕ) → ((k : ℕ) → get_or bs k 0 < 256) → ReadsBack bs
reads_back bs small n fits = reads_spelled (hex bs) bs n (spells_hex bs small) fits

-- letters in either case

value_of_capital : (c : ℕ) → value_of (capital c) ≡ value_of c
value_of_capital c = grind (arith, nat_tests)

sound_capital : (s : List ℕ) → sound_bytes (map capital s) ≡ sound_bytes s
sound_capital [] = refl
sound_capital (a ∷ []) = refl
sound_capital (a ∷ b ∷ s) = rw (value_of_capital a, value_of_capital b, sound_capital s) refl

-- A letter and its capital have one value, so by induction on the line the sound bytes are the same.
pub cases_read_alike : CasesReadAlike
cases_read_alike line n = rw (sound_capital line, length-map line capital) refl
