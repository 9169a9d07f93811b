-- The places in the frame of a setup: how its bytes are put together.
use Rattle.std.proofs.Common.{◌≡◌, ℕ, ◌+◌, ◌*◌, List, [], ◌∷◌, ◌++◌, length, drop, sym, refl, ap, ◌∙◌, arith}
use Rattle.std.proofs.lemmas.List.{append_assoc, append-nil, drop_at, drop-drop, length-append}
use Rattle.actions.specs.declared.pairs.Pair.{Pair}
use Rattle.frame.specs.Frames.{SystemView, pair_bytes, definitions, kind_of, count_of, system_bytes, bytes_of, pair_place, names_place, name_place, count_place, first_place, body_place}
use Rattle.frame.specs.Frames.FrameView.{setup}
use Rattle.frame.specs.Format.{PlacesParts}

-- pairs

pub length-pair_bytes : (ps : List Pair) → length (pair_bytes ps) ≡ 2 * length ps
unfolding pair_bytes
length-pair_bytes [] = refl
length-pair_bytes (p ∷ ps) = omega (arith, length-pair_bytes ps)

pair_bytes-append : (front back : List Pair) → pair_bytes (front ++ back) ≡ pair_bytes front ++ pair_bytes back
unfolding pair_bytes
pair_bytes-append [] back = refl
pair_bytes-append (p ∷ front) back = ap (λ t. p.from ∷ p.to ∷ t) (pair_bytes-append front back)

-- parts

-- what stands behind the names, and behind the pairs
abbrev last : SystemView → List ℕ
last system = count_of system ∷ system_bytes system

abbrev later : List ℕ → SystemView → List ℕ
later ns system = (length ns ∷ ns) ++ last system

at_pairs : (front back : List Pair) (ns : List ℕ) (system : SystemView)
    → drop (pair_place front) (bytes_of (setup (front ++ back) ns system)) ≡ pair_bytes back ++ later ns system
at_pairs front back ns system =
    let head : List ℕ = 0xA0 ∷ kind_of system ∷ length (front ++ back) ∷ pair_bytes front in
    let split : pair_bytes (front ++ back) ++ later ns system ≡ pair_bytes front
    ++ (pair_bytes back ++ later ns system) =
    ap (λ t. t ++ later ns system) (pair_bytes-append front back)
    ∙ append_assoc (pair_bytes front) (pair_bytes back) (later ns system) in
    ap (λ t. drop (pair_place front) (0xA0 ∷ kind_of system ∷ length (front ++ back) ∷ t)) split
    ∙ drop_at head (pair_bytes back ++ later ns system) (pair_place front) (omega (arith, length-pair_bytes front))

at_name_count : (ps : List Pair) (ns : List ℕ) (system : SystemView)
    → drop (names_place ps) (bytes_of (setup ps ns system)) ≡ later ns system
at_name_count ps ns system = drop_at (0xA0 ∷ kind_of system ∷ length ps ∷ pair_bytes ps) (later ns system)
    (names_place ps) (omega (arith, length-pair_bytes ps))

at_names : (ps : List Pair) (front back : List ℕ) (system : SystemView)
    → drop (name_place ps front) (bytes_of (setup ps (front ++ back) system)) ≡ back ++ last system
at_names ps front back system =
    let s : List ℕ = bytes_of (setup ps (front ++ back) system) in
    let place : name_place ps front ≡ names_place ps + (1 + length front) = omega arith in
    ap (λ n. drop n s) place
    ∙ sym (drop-drop (1 + length front) (names_place ps) s)
    ∙ ap (drop (1 + length front)) (at_name_count ps (front ++ back) system)
    ∙ ap (λ t. drop (1 + length front) (length (front ++ back) ∷ t)) (append_assoc front back (last system))
    ∙ drop_at (length (front ++ back) ∷ front) (back ++ last system) (1 + length front) (omega arith)

at_count : (ps : List Pair) (ns : List ℕ) (system : SystemView)
    → drop (count_place ps ns) (bytes_of (setup ps ns system)) ≡ last system
at_count ps ns system =
    let s : List ℕ = bytes_of (setup ps ns system) in
    let place : count_place ps ns ≡ names_place ps + (1 + length ns) = omega arith in
    ap (λ n. drop n s) place
    ∙ sym (drop-drop (1 + length ns) (names_place ps) s)
    ∙ ap (drop (1 + length ns)) (at_name_count ps ns system)
    ∙ drop_at (length ns ∷ ns) (last system) (1 + length ns) (omega arith)

pub places_parts : PlacesParts
places_parts = record { pairs = at_pairs; name_count = at_name_count; names = at_names; count = at_count }

-- the definitions or events
pub at_first : (ps : List Pair) (ns : List ℕ) (system : SystemView)
    → drop (first_place ps ns) (bytes_of (setup ps ns system)) ≡ system_bytes system
at_first ps ns system = sym (drop-drop 1 (count_place ps ns) (bytes_of (setup ps ns system)))
    ∙ ap (drop 1) (at_count ps ns system)

-- bodies

pub definitions-append : (front back : List (List ℕ))
    → definitions (front ++ back) ≡ definitions front ++ definitions back
unfolding definitions
definitions-append [] back = refl
definitions-append (body ∷ front) back = ap (λ t. length body ∷ (body ++ t)) (definitions-append front back)
    ∙ ap (λ t. length body ∷ t) (sym (append_assoc body (definitions front) (definitions back)))

-- the first body stands behind its length, and the next one behind it and a length
pub body_place-nil : (ps : List Pair) (ns : List ℕ) → body_place ps ns [] ≡ first_place ps ns + 1
unfolding definitions
body_place-nil ps ns = omega arith

pub body_place-push : (ps : List Pair) (ns : List ℕ) (front : List (List ℕ)) (body : List ℕ)
    → body_place ps ns (front ++ body ∷ []) ≡ body_place ps ns front + (length body + 1)
unfolding definitions
body_place-push ps ns front body = omega (
  arith,
  ap length (definitions-append front (body ∷ [])),
  length-append (definitions front) (length body ∷ (body ++ [])),
  ap length (append-nil body),
)
