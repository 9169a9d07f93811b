-- Strings written one behind the other over the front of a buffer.
use Rattle.std.proofs.Common.{◌≡◌, ℕ, ◌+◌, ◌-◌, ◌<◌, ◌≤◌, leb, [], ◌∷◌, ◌++◌, length, get_or, take, drop, set, Some, None, sym, refl, ap, ◌∙◌, append_assoc, arith, length-append, length-drop}
use borrow.Rule.Slice.PartMut.{put_mid}
use Rattle.std.proofs.lemmas.List.{append-nil, take_all, take_at, drop_at, drop_all, drop-drop, drop_more, set_at}
use Rattle.std.proofs.lemmas.Bool.{cond-true, cond-false, le-leb, lt-leb}
use Rattle.byte_strings.specs.Buffer.{Str, over, copy_length, buffer_after_copy}

-- a copy, where there is room and where there is none
pub copied_over : (w o : Str) → length w ≤ length o
    → (Some (length w) ≡ copy_length w (length o)) × (buffer_after_copy w o ≡ over w o)
copied_over w o room = (
  sym (cond-true (leb (length w) (length o)) _ _ (le-leb _ _ room)),
  cond-true (leb (length w) (length o)) _ _ (le-leb _ _ room),
)

pub copied_not : (w o : Str) → length o < length w → (None ≡ copy_length w (length o)) × (o ≡ buffer_after_copy w o)
copied_not w o short = (
  sym (cond-false (leb (length w) (length o)) _ _ (lt-leb _ _ short)),
  sym (cond-false (leb (length w) (length o)) _ _ (lt-leb _ _ short)),
)

pub length_over : (w o : Str) → length w ≤ length o → length (over w o) ≡ length o
length_over w o room = length-append w (drop (length w) o) ∙ ap (λ k. length w + k) (length-drop (length w) o)
    ∙ omega arith

drop_over : (w o : Str) → drop (length w) (over w o) ≡ drop (length w) o
drop_over w o = drop_at w (drop (length w) o) (length w) refl

join_over : (w v o : Str) → w ++ over v (drop (length w) o) ≡ over (w ++ v) o
join_over w v o =
    ap (λ d. w ++ (v ++ d)) (drop-drop (length v) (length w) o) ∙ sym (append_assoc w v (drop (length w + length v) o))
    ∙ ap (λ k. (w ++ v) ++ drop k o) (sym (length-append w v))

-- what is written to the part behind the first n bytes stands behind them
pub over_part : (w v o p ys : Str) (n : ℕ) → length w ≡ n → length w + length v ≤ length o → p ≡ over w o
    → ys ≡ over v (take (length p - n) (drop n p)) → put_mid n (length p - n) p ys ≡ over (w ++ v) o
over_part w v o p ys n len room first second =
    let long : length p ≡ length o = ap length first ∙ length_over w o (omega arith) in
    let rest : drop n p ≡ drop (length w) o = ap (λ k. drop k p) (sym len) ∙ ap (drop (length w)) first
    ∙ drop_over w o in
    let part : take (length p - n) (drop n p) ≡ drop (length w) o =
    take_all (length p - n) (drop n p) (omega (arith, length-drop n p)) ∙ rest in
    let front : take n p ≡ w = ap (take n) first ∙ take_at w (drop (length w) o) n len in
    let behind : drop (length p - n) (drop n p) ≡ [] =
    drop_all (length p - n) (drop n p) (omega (arith, length-drop n p)) in
    let wrote : ys ≡ over v (drop (length w) o) = second ∙ ap (over v) part in
    rw (front, behind, wrote, append-nil) (join_over w v o)

-- the same of a copy
pub copied_part : (w v o p ys : Str) (n : ℕ) → length w ≡ n → length w + length v ≤ length o → p ≡ over w o
    → ys ≡ buffer_after_copy v (take (length p - n) (drop n p)) → put_mid n (length p - n) p ys ≡ over (w ++ v) o
copied_part w v o p ys n len room first second =
    let long : length p ≡ length o = ap length first ∙ length_over w o (omega arith) in
    let part : length (take (length p - n) (drop n p)) ≡ length o - n =
    ap length (take_all (length p - n) (drop n p) (omega (arith, length-drop n p)))
    ∙ length-drop n p ∙ ap (λ k. k - n) long in
    over_part w v o p ys n len room first (second ∙ (copied_over v (take (length p - n) (drop n p)) (omega arith)).1)

-- one byte behind
pub over_byte : (w o : Str) (b n : ℕ) → length w ≡ n → n < length o → set (over w o) n b ≡ over (w ++ b ∷ []) o
over_byte w o b n len room =
    let split : drop (length w) o ≡ get_or o (length w) 0 ∷ drop (length w + 1) o =
    drop_more o (length w) 0 (omega arith) in
    let more : length (w ++ b ∷ []) ≡ length w + 1 = length-append w (b ∷ []) in
    ap (λ d. set (w ++ d) n b) split ∙ set_at w _ (drop (length w + 1) o) b n len
    ∙ sym (append_assoc w (b ∷ []) (drop (length w + 1) o)) ∙ ap (λ k. (w ++ b ∷ []) ++ drop k o) (sym more)
