-- Items over blank places, and one more behind them.
use Rattle.std.proofs.Common.{◌≡◌, ℕ, ◌+◌, ◌-◌, ◌<◌, ◌≤◌, min, List, [], ◌∷◌, ◌++◌, length, take, drop, replicate, slice_set, refl, ap, sym, ◌∙◌, arith, length-append, length-drop}
use borrow.Rule.Slice.PartMut.{put_mid}
use lib.ListN.{length-replicate}
use Rattle.std.proofs.Math.Seq.{take-append-add}
use Rattle.std.proofs.lemmas.Slice.{take-put_mid, drop-put_mid}
use Rattle.std.proofs.lemmas.List.{take_all, take_min, take-append-drop, length-take-le, replicate-append-replicate, drop_at, drop-replicate, drop-drop, drop-set-lt, length-set}

-- items over blank places are held
pub holds : {A : Type 0} (items : List A) (n : ℕ) (blank : A) → length items ≤ n
    → (length items ≤ n) × (length (items ++ drop (length items) (replicate n blank)) ≡ n)
    × (drop (length items) (items ++ drop (length items) (replicate n blank)) ≡ replicate (n - length items) blank)
holds items n blank few = (
  few,
  simp (length-append, length-drop, length-replicate) (omega (arith, few)),
  drop_at items (drop (length items) (replicate n blank)) (length items) refl ∙ drop-replicate (length items) n blank,
)

-- one item more
pub holds_more : {A : Type 0} (places : List A) (n len : ℕ) (item blank : A) → length places ≡ n
    → drop len places ≡ replicate (n - len) blank → len < n
    → (len + 1 ≤ n) × (length (slice_set places len item) ≡ n)
    × (drop (len + 1) (slice_set places len item) ≡ replicate (n - (len + 1)) blank)
holds_more places n len item blank long clear room =
    let less : n - len - 1 ≡ n - (len + 1) = omega arith in (
      omega arith,
      length-set places len item ∙ long,
      drop-set-lt (len + 1) places len item (omega arith) ∙ sym (drop-drop 1 len places) ∙ ap (drop 1) clear
          ∙ drop-replicate 1 (n - len) blank ∙ ap (λ k. replicate k blank) less,
    )

-- an item behind those of a list that has room
pub pushed : {A : Type 0} (n : ℕ) (items : List A) (item : A) → length items < n
    → take n (items ++ item ∷ []) ≡ items ++ item ∷ []
pushed n items item room = take_all n (items ++ item ∷ []) (omega (arith, length-append items (item ∷ []), room))

-- Items written behind those of a list, as many as have room. Of the places behind the old items, which are
-- blank, the first are written and the others left, so the rest behind the new items is blank too; the length
-- is put together from that front and that rest.
pub holds_written : {A : Type 0} (places items written : List A) (n len more : ℕ) (blank : A)
    → len ≤ n → length places ≡ n → drop len places ≡ replicate (n - len) blank → more ≡ min (length items) (n - len)
    → written ≡ take more items
    → (len + more ≤ n) × (length (put_mid len (len + more - len) places written) ≡ n)
    × (drop (len + more) (put_mid len (len + more - len) places written) ≡ replicate (n - (len + more)) blank)
holds_written {A} places items written n len more blank few long clear count wrote =
    let room : len + more ≤ n = omega arith in
    let size : length written ≡ more = ap length wrote ∙ length-take-le more items (omega arith) in
    let all : List A = put_mid len (len + more - len) places written in
    let front : take (len + more) all ≡ take len places ++ written =
    take-put_mid len (len + more - len) places written (len + more) (omega arith) (omega arith) in
    let rest : drop (len + more) all ≡ replicate (n - (len + more)) blank =
    drop-put_mid len (len + more - len) places written (len + more) (omega arith) (omega arith) (omega arith)
    ∙ sym (drop-drop more len places) ∙ ap (drop more) clear ∙ drop-replicate more (n - len) blank
    ∙ ap (λ k. replicate k blank) (let same : n - len - more ≡ n - (len + more) = omega arith in same) in (
      room,
      ap length (sym (take-append-drop (len + more) all))
          ∙ length-append (take (len + more) all) (drop (len + more) all)
          ∙ ap (λ l. length l + length (drop (len + more) all)) front
          ∙ ap (λ l. length (take len places ++ written) + length l) rest
          ∙ simp (length-append, length-replicate)
          (omega (arith, length-take-le len places (omega (arith, long, room)), size, room)),
      rest,
    )

-- What the list holds then is the old items and the new ones, cut off at n: both sides have the old items
-- in front, and behind them as many of the given items as n leaves.
pub appended : {A : Type 0} (places items written : List A) (n len more : ℕ)
    → len ≤ n → length places ≡ n → more ≡ min (length items) (n - len) → written ≡ take more items
    → take (len + more) (put_mid len (len + more - len) places written) ≡ take n (take len places ++ items)
appended places items written n len more few long count wrote =
    let size : length (take len places) ≡ len = length-take-le len places (omega arith) in
    let fits : more ≡ min (n - len) (length items) = omega arith in
    let many : length written ≡ more = ap length wrote ∙ length-take-le more items (omega arith) in
    take-put_mid len (len + more - len) places written (len + more) (omega arith) (omega arith)
    ∙ ap (λ w. take len places ++ w) (wrote ∙ ap (λ k. take k items) fits ∙ take_min (n - len) items)
    ∙ sym (take-append-add (take len places) items (n - len))
    ∙ ap (λ k. take k (take len places ++ items)) (omega arith)

-- a list whose items were blanked holds nothing
pub holds_nothing : {A : Type 0} (places filled : List A) (n len : ℕ) (blank : A)
    → len ≤ n → length places ≡ n → drop len places ≡ replicate (n - len) blank
    → filled ≡ replicate (length (take len places)) blank
    → (0 ≤ n) × (length (filled ++ drop len places) ≡ n) × (filled ++ drop len places ≡ replicate (n - 0) blank)
holds_nothing places filled n len blank few long clear blanked =
    let all : filled ++ drop len places ≡ replicate (n - 0) blank =
    ap (λ l. l ++ drop len places) (blanked ∙ ap (λ k. replicate k blank) (length-take-le len places (omega arith)))
    ∙ ap (λ l. replicate len blank ++ l) clear ∙ replicate-append-replicate len (n - len) blank
    ∙ ap (λ k. replicate k blank) (omega arith) in
    (omega arith, ap length all ∙ length-replicate (n - 0) blank ∙ omega arith, all)
