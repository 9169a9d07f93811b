-- The layout of a setup: its parts put together and taken apart, and where bytes are missing.
use Rattle.std.proofs.Common.{◌≡◌, ℕ, zero, suc, ◌+◌, ◌-◌, ◌*◌, ◌/◌, ◌<◌, ◌≤◌, Bool, true, false, cond, leb, List, [], ◌∷◌, ◌++◌, length, get_or, take, drop, replicate, Some, None, Option, sym, refl, ap, ◌∙◌, subst, mul_comm, mul-div_cancel, arith}
use Rattle.std.specs.List.{All}
use Rattle.std.proofs.lemmas.List.{append_assoc, append-nil, take_at, drop_at, take-append-drop, length-append, length-take-le, length-replicate}
use Rattle.std.proofs.lemmas.List.Elements.{All-nil, All-cons, All-head, All-tail, All-same, All-drop, All-replicate}
use Rattle.std.proofs.lemmas.Option.{none-some, same_Some}
use Rattle.std.proofs.lemmas.Bool.{le-leb, leb-true, leb-false}
use Rattle.frame.specs.declared.kind.Kind.{Kind}
use Rattle.frame.specs.declared.kind.Kind.TheVariants.{Terms, Net}
use Rattle.frame.specs.Parts.{part_answer, behind_answer, bodies}
use Rattle.actions.specs.declared.pairs.Pair.{Pair}
use Rattle.frame.specs.Frames.{SystemView, FrameView, pair_bytes, definitions, count_of, system_bytes, kind_of, setup_bytes, bytes_of, Whole, WholeSystem, LaidOut}
use Rattle.frame.specs.Frames.SystemView.{terms, net}
use Rattle.frame.specs.Frames.FrameView.{setup, open_sheet, add, swap, withdraw, join, release, reopen, print, look}
use Rattle.frame.specs.Format.{AreBytes}
use Rattle.frame.specs.Reading.{Layout, with_behind, net_part, system_answer, with_system, with_names, with_pairs, layout_answer}
use Rattle.frame.proofs.Places.{length-pair_bytes}
use Rattle.frame.proofs.Bodies.{all_there, bodies_end, bodies_more, behind_end, behind_missing, behind_more}

-- bytes

abbrev short : List ℕ → Type 0
short body = length body ≤ 255

is_short : (body : List ℕ) → Whole 1 body → short body
is_short body (n, few, e) = omega arith

first_byte : (b : ℕ) (s : List ℕ) → AreBytes (b ∷ s) → b ≤ 255
first_byte b s h = let small : b < 256 = All-head (λ b. b < 256) b s h in omega arith

bytes_behind : (s front rest : List ℕ) → s ≡ front ++ rest → AreBytes s → AreBytes rest
bytes_behind s front rest is h = subst AreBytes (ap (drop (length front)) is ∙ drop_at front rest (length front) refl)
    (All-drop (λ b. b < 256) (length front) s h)

-- parts

-- items of a size, behind a byte that counts them
abbrev counted : ℕ → List ℕ → List ℕ
counted size items = length items / size ∷ items

pub part_built : (size : ℕ) (items rest : List ℕ) → length items / size * size ≡ length items
    → part_answer size (counted size items ++ rest) ≡ Some (items, rest)
part_built size items rest exact =
    let fits : leb (length items / size * size) (length (items ++ rest))
    ≡ true = le-leb _ _ (omega (arith, length-append items rest)) in
    let front : take (length items / size * size) (items ++ rest)
    ≡ items = take_at items rest (length items / size * size) (sym exact) in
    let back : drop (length items / size * size) (items ++ rest)
    ≡ rest = drop_at items rest (length items / size * size) (sym exact) in
    rw (fits, front, back) refl

pub part_sound : (size : ℕ) → 0 < size → (s items rest : List ℕ) → AreBytes s → part_answer size s ≡ Some (items, rest)
    → (s ≡ counted size items ++ rest) × Whole size items
part_sound size pos [] items rest h e = absurd (none-some _ e)
part_sound size pos (count ∷ s) items rest h e = cases (leb (count * size) (length s)) refl e
  where
    cases : (t : Bool) → leb (count * size) (length s) ≡ t
        → cond {A = Option (List ℕ × List ℕ)} t (Some (take (count * size) s, drop (count * size) s)) None
        ≡ Some (items, rest) → (count ∷ s ≡ counted size items ++ rest) × Whole size items
    cases false is h = absurd (none-some _ h)
    cases true is same =
        let front : take (count * size) s ≡ items = ap (λ (p : List ℕ × List ℕ). p.0) (same_Some _ _ same) in
        let back : drop (count * size) s ≡ rest = ap (λ (p : List ℕ × List ℕ). p.1) (same_Some _ _ same) in
        let len : length items ≡ count * size = ap length (sym front)
        ∙ length-take-le (count * size) s (leb-true _ _ is) in
        let n : length items / size ≡ count = ap (λ k. k / size) len ∙ mul-div_cancel count pos in
        let whole : s ≡ items ++ rest = sym (take-append-drop (count * size) s)
        ∙ (ap (λ t. t ++ drop (count * size) s) front ∙ ap (λ t. items ++ t) back) in (
          ap (λ k. k ∷ s) (sym n)
              ∙ ap (λ t. length items / size ∷ t) whole,
          (count, first_byte count s h, len ∙ mul_comm count size),
        )

-- where bytes are missing, counted items go on from those that are there
pub part_missing : (size : ℕ) → 0 < size → (s : List ℕ) → AreBytes s → part_answer size s ≡ None
    → (items : List ℕ) × (more : List ℕ) × Whole size items × (counted size items ≡ s ++ more)
part_missing size pos [] h e = ([], 0 / size ∷ [], (0, omega arith, omega arith), refl)
part_missing size pos (count ∷ s) h e = cases (leb (count * size) (length s)) refl e
  where
    cases : (t : Bool) → leb (count * size) (length s) ≡ t
        → cond {A = Option (List ℕ × List ℕ)} t (Some (take (count * size) s, drop (count * size) s)) None ≡ None
        → (items : List ℕ) × (more : List ℕ) × Whole size items × (counted size items ≡ (count ∷ s) ++ more)
    cases true is none = absurd (none-some _ (sym none))
    cases false is none =
        let more : List ℕ = replicate (count * size - length s) 0 in
        let len : length (s ++ more)
        ≡ count * size =
        omega (
          arith,
          length-append s more,
          length-replicate {A = ℕ} (count * size - length s) 0,
          leb-false _ _ is,
        ) in
        let n : length (s ++ more) / size ≡ count = ap (λ k. k / size) len ∙ mul-div_cancel count pos in
        (s ++ more, more, (count, first_byte count s h, len ∙ mul_comm count size), ap (λ k. k ∷ (s ++ more)) n)

-- definitions

counted_bytes : (items : List ℕ) → length items ∷ items ≡ counted 1 items
counted_bytes items = ap (λ n. n ∷ items) (omega arith)

definitions-cons : (b : List ℕ) (bs : List (List ℕ)) → definitions (b ∷ bs) ≡ counted 1 b ++ definitions bs
unfolding definitions
definitions-cons b bs = ap (λ t. t ++ definitions bs) (counted_bytes b)

pub definitions_built : (bs : List (List ℕ)) (t : List ℕ)
    → (behind_answer (length bs) (definitions bs ++ t) ≡ Some t) × (bodies (length bs) (definitions bs ++ t) ≡ bs)
unfolding definitions
definitions_built [] t = (behind_end t, bodies_end t)
definitions_built (b ∷ bs) t =
    let regroup : definitions (b ∷ bs) ++ t ≡ counted 1 b
    ++ (definitions bs ++ t) =
    ap (λ u. u ++ t) (definitions-cons b bs) ∙ append_assoc (counted 1 b) (definitions bs) t in
    let told : part_answer 1 (definitions (b ∷ bs) ++ t) ≡ Some (b, definitions bs ++ t) = ap (part_answer 1) regroup
    ∙ part_built 1 b (definitions bs ++ t) (omega arith) in
    let (behind, same) = definitions_built bs t in
    let s = definitions (b ∷ bs) ++ t in
    let n : length (b ∷ bs) ≡ length bs + 1 = omega arith in (
      behind_more (length (b ∷ bs)) (length bs) s b (definitions bs ++ t) n told
          ∙ behind,
      bodies_more (length (b ∷ bs)) (length bs) s b (definitions bs ++ t) n told ∙ ap (λ r. b ∷ r) same,
    )

-- definitions that are there whole are what was read
pub definitions_sound : (n : ℕ) (s rest : List ℕ) → AreBytes s → behind_answer n s ≡ Some rest
    → (s ≡ definitions (bodies n s) ++ rest) × All short (bodies n s)
unfolding definitions
definitions_sound zero s rest h e =
    let none : bodies 0 s ≡ [] = bodies_end s in
    let same : s ≡ rest = same_Some _ _ (sym (behind_end s) ∙ e) in
    (same ∙ ap (λ bs. definitions bs ++ rest) (sym none), All-same short (bodies 0 s) [] none (All-nil short))
definitions_sound (suc n) s rest h e = cases (definitions_sound n) (part_answer 1 s) refl
  where
    cases : ((t rest : List ℕ) → AreBytes t → behind_answer n t ≡ Some rest
        → (t ≡ definitions (bodies n t) ++ rest) × All short (bodies n t)) → (o : Option (List ℕ × List ℕ))
        → part_answer 1 s ≡ o → (s ≡ definitions (bodies (suc n) s) ++ rest) × All short (bodies (suc n) s)
    cases sound None is = absurd (none-some _ (sym (behind_missing (suc n) n s (omega arith) is) ∙ e))
    cases sound (Some (b, t)) is =
        let (goes, w) = part_sound 1 (omega arith) s b t h is in
        let (later, all) = sound t rest (bytes_behind s (counted 1 b) t goes h)
        (sym (behind_more (suc n) n s b t (omega arith) is) ∙ e) in
        let more : bodies (suc n) s ≡ b ∷ bodies n t = bodies_more (suc n) n s b t (omega arith) is in
        let regroup : counted 1 b ++ (definitions (bodies n t) ++ rest) ≡ definitions (b ∷ bodies n t)
        ++ rest = sym (append_assoc (counted 1 b) (definitions (bodies n t)) rest)
        ∙ ap (λ u. u ++ rest) (sym (definitions-cons b (bodies n t))) in (
          goes ∙ ap (λ u. counted 1 b ++ u) later ∙ regroup
              ∙ ap (λ bs. definitions bs ++ rest) (sym more),
          All-same short (bodies (suc n) s) (b ∷ bodies n t) more (All-cons short b (bodies n t) (is_short b w) all),
        )

-- so many definitions with nothing in them
blanks : ℕ → List (List ℕ)
blanks n = replicate n []

-- where bytes are missing, so many definitions go on from those that are there
pub definitions_missing : (n : ℕ) (s : List ℕ) → AreBytes s → behind_answer n s ≡ None
    → (bs : List (List ℕ)) × (more : List ℕ) × (length bs ≡ n) × All short bs × (definitions bs ≡ s ++ more)
unfolding definitions blanks
definitions_missing zero s h e = absurd (none-some _ (sym e ∙ behind_end s))
definitions_missing (suc n) s h e = cases (definitions_missing n) (part_answer 1 s) refl
  where
    cases : ((t : List ℕ) → AreBytes t → behind_answer n t ≡ None
        → (bs : List (List ℕ)) × (more : List ℕ) × (length bs ≡ n) × All short bs × (definitions bs ≡ t ++ more))
        → (o : Option (List ℕ × List ℕ)) → part_answer 1 s ≡ o
        → (bs : List (List ℕ)) × (more : List ℕ) × (length bs ≡ suc n) × All short bs × (definitions bs ≡ s ++ more)
    cases missing None is =
        let (b, more, w, goes) = part_missing 1 (omega arith) s h is in
        let count : length (b ∷ blanks n) ≡ suc n = omega (arith, length-replicate {A = List ℕ} n []) in (
          b ∷ blanks n,
          more
              ++ definitions (blanks n),
          count,
          All-cons short b (blanks n) (is_short b w) (All-replicate short n [] (omega arith)),
          definitions-cons b (blanks n) ∙ ap (λ u. u ++ definitions (blanks n)) goes
              ∙ append_assoc s more (definitions (blanks n)),
        )
    cases missing (Some (b, t)) is =
        let (goes, w) = part_sound 1 (omega arith) s b t h is in
        let (bs, more, count, all, later) = missing t (bytes_behind s (counted 1 b) t goes h)
        (sym (behind_more (suc n) n s b t (omega arith) is) ∙ e) in
        let longer : length (b ∷ bs) ≡ suc n = omega arith in (
          b ∷ bs,
          more,
          longer,
          All-cons short b bs (is_short b w) all,
          definitions-cons b bs
              ∙ ap (λ u. counted 1 b ++ u) later ∙ sym (append_assoc (counted 1 b) t more)
              ∙ ap (λ u. u ++ more) (sym goes),
        )

-- systems

abbrev pub byte_of : Kind → ℕ
byte_of Terms = 1
byte_of Net = 2

exact_1 : (items : List ℕ) → length items / 1 * 1 ≡ length items
exact_1 items = omega arith

exact_2 : (items : List ℕ) → Whole 2 items → length items / 2 * 2 ≡ length items
exact_2 items (n, few, e) = omega arith

exact_17 : (items : List ℕ) → Whole 17 items → length items / 17 * 17 ≡ length items
exact_17 items (n, few, e) = omega arith

abbrev counted_system : SystemView → List ℕ
counted_system system = count_of system ∷ system_bytes system

system_built : (k : Kind) (system : SystemView) (t : List ℕ) → kind_of system ≡ byte_of k → WholeSystem system
    → system_answer k (counted_system system ++ t) ≡ Some (system, t)
system_built Terms (terms bs) t is w =
    let (behind, same) = definitions_built bs t in
    ap (with_behind (length bs) (definitions bs ++ t)) behind ∙ ap (λ r. Some (terms r, t)) same
system_built Terms (net es) t is w = absurd (omega (arith, is))
system_built Net (terms bs) t is w = absurd (omega (arith, is))
system_built Net (net es) t is w = ap net_part (part_built 17 es t (exact_17 es w))

-- what is told of a system's bytes: they are the system's and the rest, or some system's bytes go on from them
abbrev SystemTells : Kind → List ℕ → Option (SystemView × List ℕ) → Type 0
SystemTells k s (Some (system, t)) =
    (kind_of system ≡ byte_of k) × WholeSystem system × (s ≡ counted_system system ++ t)
SystemTells k s None = (system : SystemView) × (more : List ℕ) × (kind_of system ≡ byte_of k) × WholeSystem system
    × (counted_system system ≡ s ++ more)

system_tells : (k : Kind) (s : List ℕ) → AreBytes s → SystemTells k s (system_answer k s)
unfolding definitions
system_tells Terms [] h = (terms [], 0 ∷ [], refl, (omega arith, All-nil short), refl)
system_tells Terms (count ∷ s) h = cases (behind_answer count s) refl
  where
    few : count ≤ 255
    few = first_byte count s h

    cases : (o : Option (List ℕ)) → behind_answer count s ≡ o → SystemTells Terms (count ∷ s) (with_behind count s o)
    cases None is =
        let (bs, more, len, all, goes) = definitions_missing count s (All-tail (λ b. b < 256) count s h) is in
        (terms bs, more, refl, (omega (arith, few), all), ap (λ n. n ∷ definitions bs) len ∙ ap (λ u. count ∷ u) goes)
    cases (Some t) is =
        let (goes, all) = definitions_sound count s t (All-tail (λ b. b < 256) count s h) is in
        let len : length (bodies count s) ≡ count = all_there count s t is in (
          refl,
          (omega (arith, few), all),
          ap (λ u. count ∷ u) goes
              ∙ ap (λ n. n ∷ (definitions (bodies count s) ++ t)) (sym len),
        )
system_tells Net s h = cases (part_answer 17 s) refl
  where
    cases : (o : Option (List ℕ × List ℕ)) → part_answer 17 s ≡ o → SystemTells Net s (net_part o)
    cases None is = let (es, more, w, goes) = part_missing 17 (omega arith) s h is in (net es, more, refl, w, goes)
    cases (Some (es, t)) is = let (goes, w) = part_sound 17 (omega arith) s es t h is in (refl, w, goes)

-- setups, by the bytes of their pairs

abbrev raw_bytes : List ℕ → List ℕ → SystemView → List ℕ
raw_bytes ps ns system = counted 2 ps ++ (counted 1 ns ++ counted_system system)

abbrev RawLaid : List ℕ → List ℕ → SystemView → Type 0
RawLaid ps ns system = Whole 2 ps × Whole 1 ns × WholeSystem system

abbrev pub laid : List ℕ → List ℕ → SystemView → List ℕ → Layout
laid ps ns system t = record { pairs = ps; names = ns; system = system; behind = t }

raw_built : (k : Kind) (ps ns : List ℕ) (system : SystemView) (t : List ℕ) → kind_of system ≡ byte_of k
    → RawLaid ps ns system → layout_answer k (raw_bytes ps ns system ++ t) ≡ Some (laid ps ns system t)
raw_built k ps ns system t is (p, n, w) =
    let a : raw_bytes ps ns system ++ t ≡ counted 2 ps
    ++ (counted 1 ns ++ (counted_system system ++ t)) = append_assoc (counted 2 ps)
    (counted 1 ns ++ counted_system system) t
    ∙ ap (λ u. counted 2 ps ++ u) (append_assoc (counted 1 ns) (counted_system system) t) in
    let one = part_built 2 ps (counted 1 ns ++ (counted_system system ++ t)) (exact_2 ps p) in
    let two = part_built 1 ns (counted_system system ++ t) (exact_1 ns) in
    let three = system_built k system t is w in
    ap (layout_answer k) a ∙ (ap (with_pairs k) one ∙ (ap (with_names k ps) two ∙ ap (with_system ps ns) three))

-- what a layout tells of the bytes: they are the parts and the rest, or some parts go on from them
abbrev Tells : Kind → List ℕ → Option Layout → Type 0
Tells k s (Some l) = (kind_of l.system ≡ byte_of k) × RawLaid l.pairs l.names l.system
    × (s ≡ raw_bytes l.pairs l.names l.system ++ l.behind)
Tells k s None = (ps : List ℕ) × (ns : List ℕ) × (system : SystemView) × (more : List ℕ) × (kind_of system ≡ byte_of k)
    × RawLaid ps ns system × (raw_bytes ps ns system ≡ s ++ more)

-- a system of the kind with nothing in it
empty : Kind → SystemView
empty Terms = terms []
empty Net = net []

empty_kind : (k : Kind) → kind_of (empty k) ≡ byte_of k
unfolding empty
empty_kind Terms = refl
empty_kind Net = refl

pub no_items : (size : ℕ) → Whole size []
no_items size = (0, omega arith, omega arith)

empty_whole : (k : Kind) → WholeSystem (empty k)
unfolding empty
empty_whole Terms = (omega arith, All-nil short)
empty_whole Net = no_items 17

tells_system : (k : Kind) (ps ns s : List ℕ) → Whole 2 ps → Whole 1 ns → (o : Option (SystemView × List ℕ))
    → SystemTells k s o → Tells k (counted 2 ps ++ (counted 1 ns ++ s)) (with_system ps ns o)
tells_system k ps ns s p n None (system, more, is, w, goes) =
    let regroup : counted 2 ps ++ (counted 1 ns ++ (s ++ more)) ≡ (counted 2 ps ++ (counted 1 ns ++ s))
    ++ more = simp append_assoc in
    (ps, ns, system, more, is, (p, n, w), ap (λ t. counted 2 ps ++ (counted 1 ns ++ t)) goes ∙ regroup)
tells_system k ps ns s p n (Some (system, t)) (is, w, goes) =
    let regroup : counted 2 ps
    ++ (counted 1 ns ++ (counted_system system ++ t)) ≡ (counted 2 ps ++ (counted 1 ns ++ counted_system system))
    ++ t = simp append_assoc in
    (is, (p, n, w), ap (λ u. counted 2 ps ++ (counted 1 ns ++ u)) goes ∙ regroup)

tells_names : (k : Kind) (ps s : List ℕ) → AreBytes s → Whole 2 ps → (o : Option (List ℕ × List ℕ))
    → part_answer 1 s ≡ o → Tells k (counted 2 ps ++ s) (with_names k ps o)
tells_names k ps s h p None is =
    let (ns, more, n, goes) = part_missing 1 (omega arith) s h is in
    let regroup : counted 2 ps ++ ((s ++ more) ++ counted_system (empty k)) ≡ (counted 2 ps ++ s)
    ++ (more ++ counted_system (empty k)) = simp append_assoc in (
      ps,
      ns,
      empty k,
      more
          ++ counted_system (empty k),
      empty_kind k,
      (p, n, empty_whole k),
      ap (λ t. counted 2 ps ++ (t ++ counted_system (empty k))) goes ∙ regroup,
    )
tells_names k ps s h p (Some (ns, t)) is =
    let (goes, n) = part_sound 1 (omega arith) s ns t h is in
    subst (λ u. Tells k (counted 2 ps ++ u) (with_system ps ns (system_answer k t))) (sym goes)
    (tells_system k ps ns t p n (system_answer k t) (system_tells k t (bytes_behind s (counted 1 ns) t goes h)))

tells_pairs : (k : Kind) (s : List ℕ) → AreBytes s → (o : Option (List ℕ × List ℕ)) → part_answer 2 s ≡ o
    → Tells k s (with_pairs k o)
tells_pairs k s h None is =
    let (ps, more, p, goes) = part_missing 2 (omega arith) s h is in
    let rest : List ℕ = counted 1 [] ++ counted_system (empty k) in (
      ps,
      [],
      empty k,
      more ++ rest,
      empty_kind k,
      (p, no_items 1, empty_whole k),
      ap (λ t. t ++ rest) goes
          ∙ append_assoc s more rest,
    )
tells_pairs k s h (Some (ps, t)) is =
    let (goes, p) = part_sound 2 (omega arith) s ps t h is in
    subst (λ u. Tells k u (with_names k ps (part_answer 1 t))) (sym goes)
    (tells_names k ps t (bytes_behind s (counted 2 ps) t goes h) p (part_answer 1 t) refl)

layout_tells : (k : Kind) (s : List ℕ) → AreBytes s → Tells k s (layout_answer k s)
layout_tells k s h = tells_pairs k s h (part_answer 2 s) refl

-- pairs and their bytes

-- the pairs that bytes spell
pairs_in : List ℕ → List Pair
pairs_in [] = []
pairs_in (a ∷ []) = []
pairs_in (a ∷ b ∷ s) = record { from = a; to = b } ∷ pairs_in s

pair_bytes-pairs_in : (s : List ℕ) (n : ℕ) → length s ≡ 2 * n → pair_bytes (pairs_in s) ≡ s
unfolding pair_bytes pairs_in
pair_bytes-pairs_in [] n even = refl
pair_bytes-pairs_in (a ∷ []) n even = absurd (omega arith)
pair_bytes-pairs_in (a ∷ b ∷ s) zero even = absurd (omega arith)
pair_bytes-pairs_in (a ∷ b ∷ s) (suc n) even = ap (λ t. a ∷ b ∷ t) (pair_bytes-pairs_in s n (omega arith))

-- bytes of pairs that are whole are those of some pairs
some_pairs : (s : List ℕ) → Whole 2 s → (ps : List Pair) × (s ≡ pair_bytes ps) × (length ps ≤ 255)
some_pairs s (n, few, even) =
    let same = pair_bytes-pairs_in s n even in
    (pairs_in s, sym same, omega (arith, ap length same, length-pair_bytes (pairs_in s)))

raw_is : (ps : List Pair) (ns : List ℕ) (system : SystemView)
    → setup_bytes ps ns system ≡ raw_bytes (pair_bytes ps) ns system
raw_is ps ns system =
    let half : length ps ≡ length (pair_bytes ps) / 2 = omega (arith, length-pair_bytes ps) in
    let one : length ns ≡ length ns / 1 = omega arith in
    ap (λ n. n ∷ (pair_bytes ps ++ ((length ns ∷ ns) ++ counted_system system))) half
    ∙ ap (λ n. counted 2 (pair_bytes ps) ++ ((n ∷ ns) ++ counted_system system)) one

raw_laid : (ps : List Pair) (ns : List ℕ) (system : SystemView) → LaidOut (setup ps ns system)
    → RawLaid (pair_bytes ps) ns system
raw_laid ps ns system (p, n, w) = ((length ps, p, length-pair_bytes ps), (length ns, n, omega arith), w)

few_names : (ns : List ℕ) → Whole 1 ns → length ns ≤ 255
few_names ns (n, few, e) = omega arith

-- what a layout tells of the bytes, in pairs
abbrev pub SetupTells : Kind → List ℕ → Option Layout → Type 0
SetupTells k s (Some l) = (ps : List Pair) × (l.pairs ≡ pair_bytes ps) × (kind_of l.system ≡ byte_of k)
    × LaidOut (setup ps l.names l.system) × (s ≡ setup_bytes ps l.names l.system ++ l.behind)
SetupTells k s None = (ps : List Pair) × (ns : List ℕ) × (system : SystemView) × (more : List ℕ)
    × (kind_of system ≡ byte_of k) × LaidOut (setup ps ns system) × (setup_bytes ps ns system ≡ s ++ more)

in_pairs : (k : Kind) (s : List ℕ) (o : Option Layout) → Tells k s o → SetupTells k s o
in_pairs k s (Some l) (is, (p, n, w), goes) =
    let (ps, same, few) = some_pairs l.pairs p in (
      ps,
      same,
      is,
      (few, few_names l.names n, w),
      goes
          ∙ ap (λ t. t ++ l.behind) (ap (λ t. raw_bytes t l.names l.system) same ∙ sym (raw_is ps l.names l.system)),
    )
in_pairs k s None (rs, ns, system, more, is, (p, n, w), goes) =
    let (ps, same, few) = some_pairs rs p in (
      ps,
      ns,
      system,
      more,
      is,
      (few, few_names ns n, w),
      raw_is ps ns system
          ∙ ap (λ t. raw_bytes t ns system) (sym same) ∙ goes,
    )

pub setup_tells : (k : Kind) (s : List ℕ) → AreBytes s → SetupTells k s (layout_answer k s)
setup_tells k s h = in_pairs k s (layout_answer k s) (layout_tells k s h)

pub layout_built : (k : Kind) (ps : List Pair) (ns : List ℕ) (system : SystemView) (t : List ℕ)
    → kind_of system ≡ byte_of k → LaidOut (setup ps ns system)
    → layout_answer k (setup_bytes ps ns system ++ t) ≡ Some (laid (pair_bytes ps) ns system t)
layout_built k ps ns system t is l = ap (λ u. layout_answer k (u ++ t)) (raw_is ps ns system)
    ∙ raw_built k (pair_bytes ps) ns system t is (raw_laid ps ns system l)

-- the bytes of a setup that is laid out have a layout, with nothing behind
has_layout : (k : Kind) (f : FrameView) (s : List ℕ) → LaidOut f → bytes_of f ≡ 0xA0 ∷ byte_of k ∷ s
    → (l : Layout) × (layout_answer k s ≡ Some l) × (l.behind ≡ [])
has_layout k (setup ps ns system) s l e = (
  laid (pair_bytes ps) ns system [],
  ap (layout_answer k) (sym (ap (drop 2) e) ∙ sym (append-nil (setup_bytes ps ns system)))
      ∙ layout_built k ps ns system [] (ap (λ t. get_or t 1 0) e) l,
  refl,
)
has_layout k (open_sheet sheet state) s l e = absurd (omega (arith, ap (λ t. get_or t 0 0) e))
has_layout k (add sheet step) s l e = absurd (omega (arith, ap (λ t. get_or t 0 0) e))
has_layout k (swap sheet place) s l e = absurd (omega (arith, ap (λ t. get_or t 0 0) e))
has_layout k (withdraw sheet) s l e = absurd (omega (arith, ap (λ t. get_or t 0 0) e))
has_layout k (join sheet other) s l e = absurd (omega (arith, ap (λ t. get_or t 0 0) e))
has_layout k (release sheet) s l e = absurd (omega (arith, ap (λ t. get_or t 0 0) e))
has_layout k (reopen sheet) s l e = absurd (omega (arith, ap (λ t. get_or t 0 0) e))
has_layout k (print sheet) s l e = absurd (omega (arith, ap (λ t. get_or t 0 0) e))
has_layout k (look sheet count) s l e = absurd (omega (arith, ap (λ t. get_or t 0 0) e))

pub no_layout : (k : Kind) (f : FrameView) (s : List ℕ) → LaidOut f → bytes_of f ≡ 0xA0 ∷ byte_of k ∷ s
    → layout_answer k s ≡ None → ⊥
no_layout k f s l e none =
    let (found, is, empty) = has_layout k f s l e in
    absurd (none-some _ (sym none ∙ is))

-- no frame goes on behind the parts that its counts ask for
pub ends : (k : Kind) (ps : List Pair) (ns : List ℕ) (system : SystemView) (z : List ℕ) → kind_of system ≡ byte_of k
    → LaidOut (setup ps ns system) → (f : FrameView) → LaidOut f
    → bytes_of f ≡ 0xA0 ∷ byte_of k ∷ (setup_bytes ps ns system ++ z) → z ≡ []
ends k ps ns system z same l f l′ e =
    let (found, is, empty) = has_layout k f (setup_bytes ps ns system ++ z) l′ e in
    ap (λ (p : Layout). p.behind) (same_Some _ _ (sym (layout_built k ps ns system z same l) ∙ is)) ∙ empty
