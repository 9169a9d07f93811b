-- What reading a frame promises, in words of the format alone.
use Rattle.std.specs.Prelude.{◌≡◌, ◌≢◌, ℕ, ◌+◌, ◌*◌, ◌<◌, ◌≤◌, ◌↔◌, List, ◌∷◌, ◌++◌, length, take, drop, Ok, Err, Result, ◌⊎◌, IsTrue, IsFalse}
use Rattle.std.specs.List.{Contains}
use Rattle.actions.specs.declared.pairs.Pair.{Pair}
use Rattle.actions.specs.Action.{is_name}
use Rattle.frame.specs.declared.call.TheConstants.{SETUP}
use Rattle.frame.specs.declared.kind.TheConstants.{TERMS, NET}
use Rattle.frame.specs.declared.event.TheConstants.{EVENT_SIZE}
use Rattle.frame.specs.declared.frame.TheConstants.{FRAME_LIMIT}
use Rattle.frame.specs.declared.fault.FrameFault.{FrameFault}
use Rattle.frame.specs.declared.fault.FrameFault.TheVariants.{Malformed, BadSetup}
use Rattle.frame.specs.Frames.{SystemView, FrameView, pair_bytes, count_of, system_bytes, bytes_of, LaidOut, PairsAllowed, NamesAllowed, Many, Accepted, Begins, sound_pairs, all_names, pair_limit, name_limit, pair_place, names_place, name_place, count_place, body_place, event_place}
use Rattle.frame.specs.Frames.SystemView.{terms, net}
use Rattle.frame.specs.Frames.FrameView.{setup}
pub use Rattle.nets.specs.Rules.{AreBytes}
use Rattle.frame.specs.Reading.{frame_answer}

-- A string is read as a frame exactly where it is the bytes of that frame, and the frame is
-- accepted.
abbrev pub ReadsFrames : Type 0
ReadsFrames =
    (s : List ℕ) (f : FrameView) → AreBytes s
    → (frame_answer s ≡ Ok f) ↔ ((bytes_of f ≡ s) × Accepted f)

-- A string within the limit is malformed at the length of its longest beginning that begins a
-- frame, and is itself none.
pub record MalformedAt (s : List ℕ) (place : ℕ) : Type 0 where
  pub within : place ≤ length s
  pub begins : Begins (take place s)
  pub longest : (n : ℕ) → place < n → n ≤ length s → Begins (take n s) → ⊥
  pub no_frame : (f : FrameView) → LaidOut f → bytes_of f ≢ s

abbrev pub PlacesMalformed : Type 0
PlacesMalformed =
    (s : List ℕ) (place : ℕ) → AreBytes s → length s ≤ FRAME_LIMIT
    → frame_answer s ≡ Err (Malformed place) → MalformedAt s place

-- A string begins with a setup's byte and a kind that is neither of the two.
pub record HasOtherKind (s : List ℕ) : Type 0 where
  pub kind : ℕ
  pub rest : List ℕ
  pub begins : s ≡ SETUP ∷ kind ∷ rest
  pub no_terms : kind ≢ TERMS
  pub no_net : kind ≢ NET

-- A setup of another kind is told at its kind, whatever follows within the limit, and nothing else
-- is told there.
abbrev pub PlacesKinds : Type 0
PlacesKinds =
    (s : List ℕ) → AreBytes s → length s ≤ FRAME_LIMIT
    → (frame_answer s ≡ Err (BadSetup 1)) ↔ HasOtherKind s

-- A string is the bytes of a setup that is laid out.
abbrev pub IsSetup : List ℕ → List Pair → List ℕ → SystemView → Type 0
IsSetup s pairs names system =
    (bytes_of (setup pairs names system) ≡ s) × LaidOut (setup pairs names system)

-- One of the pairs replaces the name.
abbrev pub Replaces : List Pair → ℕ → Type 0
Replaces pairs n = (p : Pair) × Contains pairs p × (p.from ≡ n)

-- Pairs are bad at the first byte that breaks a rule: the pairs before its own are in order.
pub data PairsBadAt : List Pair → ℕ → Type 0 where
  from_no_name : (front : List Pair) (p : Pair) (back : List Pair)
      → IsTrue (sound_pairs front) → IsFalse (is_name p.from)
      → PairsBadAt (front ++ p ∷ back) (pair_place front)
  from_twice : (front : List Pair) (p : Pair) (back : List Pair)
      → IsTrue (sound_pairs front) → IsTrue (is_name p.from) → Replaces front p.from
      → PairsBadAt (front ++ p ∷ back) (pair_place front)
  to_no_name : (front : List Pair) (p : Pair) (back : List Pair)
      → IsTrue (sound_pairs front) → IsTrue (is_name p.from) → (Replaces front p.from → ⊥)
      → IsFalse (is_name p.to)
      → PairsBadAt (front ++ p ∷ back) (pair_place front + 1)

-- Names, behind pairs, are bad at the first byte that is none.
pub data NamesBadAt (pairs : List Pair) : List ℕ → ℕ → Type 0 where
  no_name : (front : List ℕ) (n : ℕ) (back : List ℕ)
      → IsTrue (all_names front) → IsFalse (is_name n)
      → NamesBadAt pairs (front ++ n ∷ back) (name_place pairs front)

-- A setup is bad at its kind, or it is laid out and bad at the first byte that breaks a rule: all
-- before it is in order.
pub data BadAt : List ℕ → ℕ → Type 0 where
  kind : {k : ℕ} {s : List ℕ} → (k ≢ TERMS) → (k ≢ NET) → BadAt (SETUP ∷ k ∷ s) 1
  many_pairs : {s : List ℕ} (pairs : List Pair) (names : List ℕ) (system : SystemView)
      → IsSetup s pairs names system → pair_limit < length pairs
      → BadAt s 2
  bad_pair : {s : List ℕ} {place : ℕ} (pairs : List Pair) (names : List ℕ) (system : SystemView)
      → IsSetup s pairs names system → length pairs ≤ pair_limit → PairsBadAt pairs place
      → BadAt s place
  many_names : {s : List ℕ} (pairs : List Pair) (names : List ℕ) (system : SystemView)
      → IsSetup s pairs names system → PairsAllowed pairs → name_limit < length names
      → BadAt s (names_place pairs)
  bad_name : {s : List ℕ} {place : ℕ} (pairs : List Pair) (names : List ℕ) (system : SystemView)
      → IsSetup s pairs names system → PairsAllowed pairs → length names ≤ name_limit
      → NamesBadAt pairs names place
      → BadAt s place
  many_parts : {s : List ℕ} (pairs : List Pair) (names : List ℕ) (system : SystemView)
      → IsSetup s pairs names system → PairsAllowed pairs → NamesAllowed names → Many system
      → BadAt s (count_place pairs names)

abbrev pub PlacesBadSetups : Type 0
PlacesBadSetups =
    (s : List ℕ) (place : ℕ) → AreBytes s → frame_answer s ≡ Err (BadSetup place) → BadAt s place

-- What the format says of a string: the frame that it is, or where it fails. A string that is too
-- long is malformed at the limit, and one of another kind is not malformed.
abbrev pub IsReadAs : List ℕ → Result FrameView FrameFault → Type 0
IsReadAs s (Ok f) = (bytes_of f ≡ s) × Accepted f
IsReadAs s (Err (Malformed place)) =
    ((FRAME_LIMIT < length s) × (place ≡ FRAME_LIMIT))
    ⊎ ((length s ≤ FRAME_LIMIT) × (HasOtherKind s → ⊥) × MalformedAt s place)
IsReadAs s (Err (BadSetup place)) = (length s ≤ FRAME_LIMIT) × BadAt s place

-- Of each string the format says one thing, and that is answered.
abbrev pub ReadsOnce : Type 0
ReadsOnce =
    (s : List ℕ) (r : Result FrameView FrameFault) → AreBytes s
    → (frame_answer s ≡ r) ↔ IsReadAs s r

-- In the frame of a setup each part stands at its place, with what follows it behind it.
pub record PlacesParts : Type 0 where
  pub pairs : (front back : List Pair) (names : List ℕ) (system : SystemView)
      → drop (pair_place front) (bytes_of (setup (front ++ back) names system))
      ≡ pair_bytes back ++ ((length names ∷ names) ++ (count_of system ∷ system_bytes system))
  pub name_count : (pairs : List Pair) (names : List ℕ) (system : SystemView)
      → drop (names_place pairs) (bytes_of (setup pairs names system))
      ≡ (length names ∷ names) ++ (count_of system ∷ system_bytes system)
  pub names : (pairs : List Pair) (front back : List ℕ) (system : SystemView)
      → drop (name_place pairs front) (bytes_of (setup pairs (front ++ back) system))
      ≡ back ++ (count_of system ∷ system_bytes system)
  pub count : (pairs : List Pair) (names : List ℕ) (system : SystemView)
      → drop (count_place pairs names) (bytes_of (setup pairs names system))
      ≡ count_of system ∷ system_bytes system

-- In a setup that is read, each body stands at its place in the frame.
abbrev pub PlacesBodies : Type 0
PlacesBodies =
    (s : List ℕ) (pairs : List Pair) (names : List ℕ)
    (front : List (List ℕ)) (body : List ℕ) (back : List (List ℕ)) → AreBytes s
    → frame_answer s ≡ Ok (setup pairs names (terms (front ++ body ∷ back)))
    → take (length body) (drop (body_place pairs names front) s) ≡ body

-- In a setup that is read, each event stands at its place in the frame, with those that follow it
-- behind it.
abbrev pub PlacesEvents : Type 0
PlacesEvents =
    (s : List ℕ) (pairs : List Pair) (names events : List ℕ) (i : ℕ) → AreBytes s
    → frame_answer s ≡ Ok (setup pairs names (net events))
    → drop (event_place pairs names i) s ≡ drop (EVENT_SIZE * i) events
