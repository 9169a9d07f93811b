-- A line written in three pieces.
use Rattle.std.proofs.Common.{◌≡◌, ◌+◌, ◌-◌, ◌*◌, ◌<◌, ◌≤◌, [], ◌∷◌, ◌++◌, length, take, drop, set, Some, None, sym, ap, ◌∙◌, arith, length-append}
use borrow.Rule.Slice.PartMut.{put_mid}
use Rattle.byte_strings.specs.Buffer.{Str, over, copy_length, buffer_after_copy}
use Rattle.byte_strings.proofs.Over.{copied_over, copied_not, copied_part, over_byte}
use Rattle.hexadecimal.specs.Hex.{hex}
use Rattle.hexadecimal.specs.Line.{line}
use Rattle.hexadecimal.proofs.Text.{length_hex, hex_append}

pub length_line : (bs : Str) → length (line bs) ≡ 2 * length bs + 1
length_line bs = length-append (hex bs) (10 ∷ []) ∙ ap (λ k. k + 1) (length_hex bs)

length_both : (f b : Str) → length (line (f ++ b)) ≡ 2 * (length f + length b) + 1
length_both f b = length_line (f ++ b) ∙ ap (λ k. 2 * k + 1) (length-append f b)

pub line_short : (f b o : Str) → length o < 2 * (length f + length b) + 1
    → (None ≡ copy_length (line (f ++ b)) (length o)) × (o ≡ buffer_after_copy (line (f ++ b)) o)
line_short f b o h = copied_not (line (f ++ b)) o (rw (length_both f b) h)

-- A line that has room is written whole. The digits of the front go over the buffer, those of the back over
-- what is behind them, and the line end behind both: each time what was written so far stands over the front
-- of the old buffer, and it grows by the piece.
pub line_written : (f b o p q : Str) → 2 * (length f + length b) + 1 ≤ length o → p ≡ buffer_after_copy (hex f) o
    → q ≡ buffer_after_copy (hex b) (take (length p - 2 * length f) (drop (2 * length f) p))
    → (Some (2 * (length f + length b) + 1) ≡ copy_length (line (f ++ b)) (length o))
    × (set (put_mid (2 * length f) (length p - 2 * length f) p q) (2 * (length f + length b)) 10
    ≡ buffer_after_copy (line (f ++ b)) o)
line_written f b o p q room first second =
    let lf = length_hex f in
    let lb = length_hex b in
    let told = copied_over (line (f ++ b)) o (rw (length_both f b) room) in
    let front : p ≡ over (hex f) o = first ∙ (copied_over (hex f) o (omega arith)).1 in
    let both : put_mid (2 * length f) (length p - 2 * length f) p q ≡ over (hex f ++ hex b) o =
    copied_part (hex f) (hex b) o p q (2 * length f) lf (omega arith) front second in
    let long : length (hex f ++ hex b) ≡ 2 * (length f + length b) = length-append (hex f) (hex b) ∙ omega arith in (
      ap Some (sym (length_both f b)) ∙ told.0,
      ap (λ w. set w (2 * (length f + length b)) 10) both
          ∙ over_byte (hex f ++ hex b) o 10 (2 * (length f + length b)) long (omega arith)
          ∙ ap (λ w. over (w ++ 10 ∷ []) o) (sym (hex_append f b)) ∙ sym told.1,
    )
