-- What reading a frame answers, step by step.
use Rattle.std.specs.Prelude.{ℕ, ◌+◌, ◌-◌, List, [], ◌∷◌, length, Some, None, Ok, Err, Option, Result, ◌==◌, nat_le, if◌then◌else◌}
use Rattle.std.specs.Borrow.{Bor}
use Rattle.actions.specs.Contents.{pairs_of, names_of}
use Rattle.frame.specs.declared.fault.FrameFault.{FrameFault}
use Rattle.frame.specs.declared.fault.FrameFault.TheVariants.{Malformed, BadSetup}
use Rattle.frame.specs.declared.definition.Definitions.{Definitions}
use Rattle.frame.specs.declared.setup.Setup.{Setup}
use Rattle.frame.specs.declared.setup.System.{System}
use Rattle.frame.specs.declared.parts.Parts.{Parts}
use Rattle.frame.specs.declared.kind.Kind.{Kind}
use Rattle.frame.specs.declared.kind.Kind.TheVariants.{Terms, Net}
use Rattle.frame.specs.declared.frame.Frame.{Frame}
use Rattle.frame.specs.declared.frame.Frame.TheVariants as variant
use Rattle.frame.specs.declared.frame.TheConstants.{FRAME_LIMIT}
use Rattle.frame.specs.declared.event.TheConstants.{EVENT_SIZE}
use Rattle.frame.specs.declared.call.Call.{Call}
use Rattle.frame.specs.declared.call.Call.TheVariants as calls
use Rattle.frame.specs.Calls.{head_answer}
use Rattle.frame.specs.Kinds.{named_kind}
use Rattle.frame.specs.Parts.{part_answer, behind_answer, bodies}
use Rattle.frame.specs.Frames.{SystemView, FrameView}
use Rattle.frame.specs.Frames.SystemView.{terms, net}
use Rattle.frame.specs.Frames.FrameView.{setup, open_sheet, add, swap, withdraw, join, release, reopen, print, look}
use Rattle.frame.specs.Rules.{rules_answer}
pub use Rattle.frame.specs.Systems.{bodies_of, system_view}

-- what a frame that was read holds
abbrev pub setup_view : Setup → FrameView
setup_view s = setup (pairs_of s.pairs) (names_of s.names) (system_view s.system)

abbrev pub frame_view : Frame → FrameView
frame_view (variant.Setup s) = setup_view s
frame_view (variant.Open sheet state) = open_sheet sheet state.now
frame_view (variant.Add sheet step) = add sheet step.now
frame_view (variant.Swap sheet place) = swap sheet place
frame_view (variant.Withdraw sheet) = withdraw sheet
frame_view (variant.Join sheet other) = join sheet other
frame_view (variant.Release sheet) = release sheet
frame_view (variant.Reopen sheet) = reopen sheet
frame_view (variant.Print sheet) = print sheet
frame_view (variant.Look sheet count) = look sheet count

abbrev pub result_view : {A B : Type 0} → (A → B) → Result A FrameFault → Result B FrameFault
result_view view (Ok a) = Ok (view a)
result_view view (Err f) = Err f

-- counted definitions, and what stands behind them
abbrev pub with_behind : ℕ → List ℕ → Option (List ℕ) → Option (SystemView × List ℕ)
with_behind count s None = None
with_behind count s (Some behind) = Some (terms (bodies count s), behind)

abbrev pub terms_answer : List ℕ → Option (SystemView × List ℕ)
terms_answer [] = None
terms_answer (count ∷ s) = with_behind count s (behind_answer count s)

-- counted events, and what stands behind them
abbrev pub net_part : Option (List ℕ × List ℕ) → Option (SystemView × List ℕ)
net_part None = None
net_part (Some (events, behind)) = Some (net events, behind)

abbrev pub system_answer : Kind → List ℕ → Option (SystemView × List ℕ)
system_answer Terms s = terms_answer s
system_answer Net s = net_part (part_answer EVENT_SIZE s)

abbrev pub definitions_view : Option (Definitions × Bor (List ℕ)) → Option (SystemView × List ℕ)
definitions_view None = None
definitions_view (Some (definitions, behind)) = Some (terms (bodies_of definitions), behind.now)

abbrev pub system_part_view : Option (System × Bor (List ℕ)) → Option (SystemView × List ℕ)
system_part_view None = None
system_part_view (Some (system, behind)) = Some (system_view system, behind.now)

-- the parts of a setup, and the bytes behind them
pub record Layout : Type 0 where
  pub pairs : List ℕ
  pub names : List ℕ
  pub system : SystemView
  pub behind : List ℕ

abbrev pub with_system : List ℕ → List ℕ → Option (SystemView × List ℕ) → Option Layout
with_system pairs names None = None
with_system pairs names (Some (system, s)) =
    Some (record { pairs = pairs; names = names; system = system; behind = s })

abbrev pub with_names : Kind → List ℕ → Option (List ℕ × List ℕ) → Option Layout
with_names kind pairs None = None
with_names kind pairs (Some (names, s)) = with_system pairs names (system_answer kind s)

abbrev pub with_pairs : Kind → Option (List ℕ × List ℕ) → Option Layout
with_pairs kind None = None
with_pairs kind (Some (pairs, s)) = with_names kind pairs (part_answer 1 s)

abbrev pub layout_answer : Kind → List ℕ → Option Layout
layout_answer kind s = with_pairs kind (part_answer 2 s)

abbrev pub layout_view : Option (Parts × Bor (List ℕ)) → Option Layout
layout_view None = None
layout_view (Some (s, behind)) =
    Some (record {
      pairs = s.pairs.now;
      names = s.names.now;
      system = system_view s.system;
      behind = behind.now;
    })

-- missing bytes are told behind the end, and extra ones where they begin
abbrev pub parts_answer : ℕ → Option Layout → Result FrameView FrameFault
parts_answer end None = Err (Malformed end)
parts_answer end (Some l) =
    if length l.behind == 0
    then rules_answer l.pairs l.names l.system
    else Err (Malformed (end - length l.behind))

-- what stands behind the kind of a setup; a kind that is neither is told before all of it
abbrev pub kind_answer : Option Kind → List ℕ → Result FrameView FrameFault
kind_answer None s = Err (BadSetup 1)
kind_answer (Some kind) s = parts_answer (length s + 2) (layout_answer kind s)

-- what stands behind the first byte of a setup
abbrev pub setup_answer : List ℕ → Result FrameView FrameFault
setup_answer [] = Err (Malformed 1)
setup_answer (byte ∷ s) = kind_answer (named_kind byte) s

-- a sheet and the rest of the frame; a sheet alone; a sheet and one byte more
abbrev pub sheet_rest_answer : (ℕ → List ℕ → FrameView) → List ℕ → Result FrameView FrameFault
sheet_rest_answer call [] = Err (Malformed 1)
sheet_rest_answer call (sheet ∷ rest) = Ok (call sheet rest)

abbrev pub sheet_answer : {A : Type 0} → (ℕ → A) → List ℕ → Result A FrameFault
sheet_answer call [] = Err (Malformed 1)
sheet_answer call (sheet ∷ []) = Ok (call sheet)
sheet_answer call (sheet ∷ extra ∷ rest) = Err (Malformed 2)

abbrev pub sheet_byte_answer : {A : Type 0} → (ℕ → ℕ → A) → List ℕ → Result A FrameFault
sheet_byte_answer call [] = Err (Malformed 1)
sheet_byte_answer call (sheet ∷ []) = Err (Malformed 2)
sheet_byte_answer call (sheet ∷ byte ∷ []) = Ok (call sheet byte)
sheet_byte_answer call (sheet ∷ byte ∷ extra ∷ rest) = Err (Malformed 3)

-- what stands behind the byte of a call
abbrev pub call_answer : Call → List ℕ → Result FrameView FrameFault
call_answer calls.Setup rest = setup_answer rest
call_answer calls.Open rest = sheet_rest_answer open_sheet rest
call_answer calls.Add rest = sheet_rest_answer add rest
call_answer calls.Swap rest = sheet_byte_answer swap rest
call_answer calls.Withdraw rest = sheet_answer withdraw rest
call_answer calls.Join rest = sheet_byte_answer join rest
call_answer calls.Release rest = sheet_answer release rest
call_answer calls.Reopen rest = sheet_answer reopen rest
call_answer calls.Print rest = sheet_answer print rest
call_answer calls.Look rest = sheet_byte_answer look rest

-- the answer to a call and what stands behind its byte; a string that begins with none is refused
abbrev pub split_answer : Option (Call × List ℕ) → Result FrameView FrameFault
split_answer None = Err (Malformed 0)
split_answer (Some (call, rest)) = call_answer call rest

abbrev pub string_answer : List ℕ → Result FrameView FrameFault
string_answer s = split_answer (head_answer s)

-- what a frame says; a string longer than any frame is refused behind the longest
abbrev pub frame_answer : List ℕ → Result FrameView FrameFault
frame_answer s =
    if nat_le (length s) FRAME_LIMIT then string_answer s else Err (Malformed FRAME_LIMIT)
