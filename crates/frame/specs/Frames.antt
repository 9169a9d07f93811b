-- The frames: what each holds, and its bytes.
use Rattle.std.specs.Prelude.{◌≡◌, ℕ, ◌+◌, ◌*◌, ◌/◌, ◌<◌, ◌≤◌, List, [], ◌∷◌, ◌++◌, length, Some, None, Option, IsTrue}
use Rattle.std.specs.List.{All}
use Rattle.actions.specs.declared.pairs.Pair.{Pair}
use Rattle.frame.specs.declared.call.TheConstants.{SETUP, OPEN, ADD, SWAP, WITHDRAW, JOIN, RELEASE, REOPEN, PRINT, LOOK}
use Rattle.frame.specs.declared.kind.TheConstants.{TERMS, NET}
use Rattle.frame.specs.declared.event.TheConstants.{EVENT_SIZE}
use Rattle.frame.specs.declared.frame.TheConstants.{FRAME_LIMIT}
pub use Rattle.actions.specs.Pairs.{sound_pairs, pair_limit}
pub use Rattle.actions.specs.Names.{all_names, name_limit}
pub use Rattle.nets.specs.Events.{event_limit}
pub use Rattle.terms.specs.Bodies.{definition_limit}

-- The system of a setup: terms, by the bodies of their definitions, or a net, by the bytes of its
-- events.
pub data SystemView : Type 0 where
  terms : (bodies : List (List ℕ)) → SystemView
  net : (events : List ℕ) → SystemView

-- A frame names a call; a sheet is named by a byte.
pub data FrameView : Type 0 where
  setup : (pairs : List Pair) (names : List ℕ) (system : SystemView) → FrameView
  open_sheet : (sheet : ℕ) (state : List ℕ) → FrameView
  add : (sheet : ℕ) (step : List ℕ) → FrameView
  swap : (sheet place : ℕ) → FrameView
  withdraw : (sheet : ℕ) → FrameView
  join : (sheet other : ℕ) → FrameView
  release : (sheet : ℕ) → FrameView
  reopen : (sheet : ℕ) → FrameView
  print : (sheet : ℕ) → FrameView
  look : (sheet count : ℕ) → FrameView

-- the sheet that a frame names first; a setup names none
abbrev pub sheet_of : FrameView → Option ℕ
sheet_of (setup pairs names system) = None
sheet_of (open_sheet sheet state) = Some sheet
sheet_of (add sheet step) = Some sheet
sheet_of (swap sheet place) = Some sheet
sheet_of (withdraw sheet) = Some sheet
sheet_of (join sheet other) = Some sheet
sheet_of (release sheet) = Some sheet
sheet_of (reopen sheet) = Some sheet
sheet_of (print sheet) = Some sheet
sheet_of (look sheet count) = Some sheet

-- pairs, each the name that is replaced and the one that is put in its place
unfoldable pub pair_bytes : List Pair → List ℕ
pair_bytes [] = []
pair_bytes (p ∷ ps) = p.from ∷ p.to ∷ pair_bytes ps

-- definitions, each a body behind its length
unfoldable pub definitions : List (List ℕ) → List ℕ
definitions [] = []
definitions (body ∷ bodies) = length body ∷ (body ++ definitions bodies)

-- how many definitions or events there are
abbrev pub count_of : SystemView → ℕ
count_of (terms bodies) = length bodies
count_of (net events) = length events / EVENT_SIZE

-- the bytes of the definitions or events
abbrev pub system_bytes : SystemView → List ℕ
system_bytes (terms bodies) = definitions bodies
system_bytes (net events) = events

-- the byte that says which system follows
abbrev pub kind_of : SystemView → ℕ
kind_of (terms bodies) = TERMS
kind_of (net events) = NET

-- pairs, names and the definitions or events, each behind a byte that counts them
abbrev pub setup_bytes : List Pair → List ℕ → SystemView → List ℕ
setup_bytes pairs names system =
    (length pairs ∷ pair_bytes pairs)
    ++ ((length names ∷ names) ++ (count_of system ∷ system_bytes system))

abbrev pub bytes_of : FrameView → List ℕ
bytes_of (setup pairs names system) = SETUP ∷ kind_of system ∷ setup_bytes pairs names system
bytes_of (open_sheet sheet state) = OPEN ∷ sheet ∷ state
bytes_of (add sheet step) = ADD ∷ sheet ∷ step
bytes_of (swap sheet place) = SWAP ∷ sheet ∷ place ∷ []
bytes_of (withdraw sheet) = WITHDRAW ∷ sheet ∷ []
bytes_of (join sheet other) = JOIN ∷ sheet ∷ other ∷ []
bytes_of (release sheet) = RELEASE ∷ sheet ∷ []
bytes_of (reopen sheet) = REOPEN ∷ sheet ∷ []
bytes_of (print sheet) = PRINT ∷ sheet ∷ []
bytes_of (look sheet count) = LOOK ∷ sheet ∷ count ∷ []

-- whole items of a size, as many as a byte can count
abbrev pub Whole : ℕ → List ℕ → Type 0
Whole size items = (n : ℕ) × (n ≤ 255) × (length items ≡ size * n)

-- A byte can count the definitions, and one the bytes of each body; events are whole.
abbrev pub WholeSystem : SystemView → Type 0
WholeSystem (terms bodies) = (length bodies ≤ 255) × All (λ body. length body ≤ 255) bodies
WholeSystem (net events) = Whole EVENT_SIZE events

-- A byte can count the pairs of a setup, and one its names, and its system is whole.
abbrev pub LaidOut : FrameView → Type 0
LaidOut (setup pairs names system) =
    (length pairs ≤ 255) × (length names ≤ 255) × WholeSystem system
LaidOut (open_sheet sheet state) = Unit {0}
LaidOut (add sheet step) = Unit {0}
LaidOut (swap sheet place) = Unit {0}
LaidOut (withdraw sheet) = Unit {0}
LaidOut (join sheet other) = Unit {0}
LaidOut (release sheet) = Unit {0}
LaidOut (reopen sheet) = Unit {0}
LaidOut (print sheet) = Unit {0}
LaidOut (look sheet count) = Unit {0}

-- At most 8 pairs, of names only, in which none is replaced by two.
abbrev pub PairsAllowed : List Pair → Type 0
PairsAllowed pairs = (length pairs ≤ pair_limit) × IsTrue (sound_pairs pairs)

-- At most 8 names, and nothing else.
abbrev pub NamesAllowed : List ℕ → Type 0
NamesAllowed names = (length names ≤ name_limit) × IsTrue (all_names names)

-- A system has at most 16 definitions, or 48 events; or it has more.
abbrev pub Few : SystemView → Type 0
Few (terms bodies) = length bodies ≤ definition_limit
Few (net events) = length events ≤ EVENT_SIZE * event_limit

abbrev pub Many : SystemView → Type 0
Many (terms bodies) = definition_limit < length bodies
Many (net events) = EVENT_SIZE * event_limit < length events

-- A setup has pairs and names that are allowed, and not too many definitions or events.
abbrev pub WithinRules : FrameView → Type 0
WithinRules (setup pairs names system) = PairsAllowed pairs × NamesAllowed names × Few system
WithinRules (open_sheet sheet state) = Unit {0}
WithinRules (add sheet step) = Unit {0}
WithinRules (swap sheet place) = Unit {0}
WithinRules (withdraw sheet) = Unit {0}
WithinRules (join sheet other) = Unit {0}
WithinRules (release sheet) = Unit {0}
WithinRules (reopen sheet) = Unit {0}
WithinRules (print sheet) = Unit {0}
WithinRules (look sheet count) = Unit {0}

-- A frame that is accepted: laid out, within the rules and the limit.
abbrev pub Accepted : FrameView → Type 0
Accepted f = LaidOut f × WithinRules f × (length (bytes_of f) ≤ FRAME_LIMIT)

-- A string begins a frame: some frame goes on from it.
abbrev pub Begins : List ℕ → Type 0
Begins s = (f : FrameView) × (more : List ℕ) × LaidOut f × (bytes_of f ≡ s ++ more)

-- Places in the frame of a setup. The kind stands at 1, and the count of the pairs at 2.

-- the first byte of a pair behind others
abbrev pub pair_place : List Pair → ℕ
pair_place front = 3 + 2 * length front

-- the count of the names, behind the pairs
abbrev pub names_place : List Pair → ℕ
names_place pairs = 3 + 2 * length pairs

-- a name behind others
abbrev pub name_place : List Pair → List ℕ → ℕ
name_place pairs front = names_place pairs + 1 + length front

-- the count of the definitions or events, behind the names
abbrev pub count_place : List Pair → List ℕ → ℕ
count_place pairs names = names_place pairs + 1 + length names

-- the first definition or event
abbrev pub first_place : List Pair → List ℕ → ℕ
first_place pairs names = count_place pairs names + 1

-- the first byte of a body behind other definitions
abbrev pub body_place : List Pair → List ℕ → List (List ℕ) → ℕ
body_place pairs names front = first_place pairs names + length (definitions front) + 1

-- the first byte of an event, by its number from 0
abbrev pub event_place : List Pair → List ℕ → ℕ → ℕ
event_place pairs names i = first_place pairs names + EVENT_SIZE * i
