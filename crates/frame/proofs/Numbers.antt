-- An event of seventeen bytes, taken off the front of others.
use Rattle.std.proofs.Common.{◌≡◌, ℕ, ◌+◌, ◌-◌, ◌*◌, ◌<◌, ◌≤◌, true, cond, leb, List, [], ◌∷◌, ◌++◌, length, take, drop, Some, None, sym, refl, ap, ◌∙◌, ⊎_elim, arith, w64}
use Rattle.std.specs.Int.{from_be_bytes}
use Rattle.std.proofs.lemmas.List.{append_assoc, length-append, length-drop, length-take-le, take_at, drop_at, take_all, take-append-drop}
use Rattle.std.proofs.lemmas.Bool.{le-leb, lt-leb, cases_lt, cond-true}
use Rattle.frame.specs.Events.{big_endian, event_of, event_answer, NextEvent}

-- eight bytes spell what they are worth
spelled : (bs : List ℕ) → length bs ≡ 8 → from_be_bytes w64 bs ≡ big_endian bs
spelled [] long = absurd (omega arith)
spelled (a ∷ []) long = absurd (omega arith)
spelled (a ∷ b ∷ []) long = absurd (omega arith)
spelled (a ∷ b ∷ c ∷ []) long = absurd (omega arith)
spelled (a ∷ b ∷ c ∷ d ∷ []) long = absurd (omega arith)
spelled (a ∷ b ∷ c ∷ d ∷ e ∷ []) long = absurd (omega arith)
spelled (a ∷ b ∷ c ∷ d ∷ e ∷ f ∷ []) long = absurd (omega arith)
spelled (a ∷ b ∷ c ∷ d ∷ e ∷ f ∷ g ∷ []) long = absurd (omega arith)
spelled (a ∷ b ∷ c ∷ d ∷ e ∷ f ∷ g ∷ h ∷ []) long = omega arith
spelled (a ∷ b ∷ c ∷ d ∷ e ∷ f ∷ g ∷ h ∷ i ∷ s) long = absurd (omega arith)

-- an action and two sets, before other bytes
event_first : (action : ℕ) (b a r : List ℕ) → length b ≡ 8 → length a ≡ 8
    → event_answer (action ∷ (b ++ (a ++ r))) 0
    ≡ Some (record { action = action; before = from_be_bytes w64 b; after = from_be_bytes w64 a })
event_first action b a r long_b long_a =
    let both : length (b ++ a) ≡ 16 = omega (arith, length-append b a) in
    let front : take 16 (b ++ (a ++ r)) ≡ b ++ a = ap (take 16) (sym (append_assoc b a r))
    ∙ take_at (b ++ a) r 16 both in
    let fits : leb 17 (length (action ∷ (b ++ (a ++ r))))
    ≡ true = le-leb _ _ (omega (arith, length-append b (a ++ r), length-append a r)) in
    let second : take 8 (drop 8 (b ++ a)) ≡ a = ap (take 8) (drop_at b a 8 long_b) ∙ take_all 8 a (omega arith) in
    cond-true (leb 17 (length (action ∷ (b ++ (a ++ r))))) _ _ fits
    ∙ rw (front, take_at b a 8 long_b, second, spelled b long_b, spelled a long_a) refl

pub event_taken : (bytes behind b left a rest : List ℕ) (action before after : ℕ) → bytes ≡ action ∷ behind
    → b ≡ take 8 behind → left ≡ drop 8 behind → length left + 8 ≡ length behind → a ≡ take 8 left → rest ≡ drop 8 left
    → length rest + 8 ≡ length left
    → before ≡ from_be_bytes w64 b → after ≡ from_be_bytes w64 a
    → NextEvent bytes (Some (record { action = action; before = before; after = after })) rest
event_taken bytes behind b left a rest action before after whole is_b is_left long is_a is_rest short told_b told_a =
    let long_b : length b ≡ 8 = ap length is_b ∙ length-take-le 8 behind (omega arith) in
    let long_a : length a ≡ 8 = ap length is_a ∙ length-take-le 8 left (omega arith) in
    let later : a ++ rest ≡ left = rw (is_a, is_rest) (take-append-drop 8 left) in
    let all : b ++ (a ++ rest) ≡ behind = rw (later, is_b, is_left) (take-append-drop 8 behind) in
    let same : bytes ≡ action ∷ (b ++ (a ++ rest)) = whole ∙ ap (λ s. action ∷ s) (sym all) in
    let both : length (b ++ a) ≡ 16 = omega (arith, length-append b a) in
    let told = ap (λ s. event_answer s 0) same ∙ event_first action b a rest long_b long_a in (
      told ∙ rw (told_b, told_a) refl,
      sym (ap (drop 17) same ∙ ap (drop 16) (sym (append_assoc b a rest)) ∙ drop_at (b ++ a) rest 16 both),
    )

-- the first event behind others is the next
pub event_behind : (bytes : List ℕ) (i : ℕ) → event_answer (drop (17 * i) bytes) 0 ≡ event_answer bytes i
event_behind bytes i =
    let rest : length (drop (17 * i) bytes) ≡ length bytes - 17 * i = length-drop (17 * i) bytes in
    let there : leb 17 (length (drop (17 * i) bytes)) ≡ leb (17 * i + 17) (length bytes) =
    ⊎_elim
    (λ (short : length bytes < 17 * i + 17). lt-leb _ _ (omega arith) ∙ sym (lt-leb _ _ short))
    (λ (enough : 17 * i + 17 ≤ length bytes). le-leb _ _ (omega arith) ∙ sym (le-leb _ _ enough))
    (cases_lt (length bytes) (17 * i + 17)) in
    ap (λ b. cond b (Some (event_of (take 17 (drop (17 * i) bytes)))) None) there
