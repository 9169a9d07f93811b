-- The net that a setup makes: its events one by one, each taken or refused.
use Rattle.std.specs.Prelude.{◌≡◌, ℕ, zero, suc, ◌+◌, ◌*◌, ◌<◌, ◌⊎◌, List, [], ◌∷◌, ◌++◌, length, Some, None, Ok, Err, Result, slice_index_or}
use Rattle.byte_strings.specs.Buffer.{Str}
use Rattle.nets.specs.declared.event.Event.{Event}
use Rattle.nets.specs.declared.event.EventFault.{EventFault}
use Rattle.nets.specs.declared.net.Net.{Net}
use Rattle.nets.specs.Contents.{events_of}
use Rattle.nets.specs.Events.{add_fault, event_fault}
use Rattle.frame.specs.declared.fault.FrameFault.{FrameFault}
use Rattle.frame.specs.declared.fault.FrameFault.TheVariants.{BadSetup}
use Rattle.frame.specs.Events.{event_answer}

-- the events from index i on, at most n of them, behind those that are there; the bytes start at a place of the frame
unfoldable pub built : ℕ → Str → List Event → ℕ → ℕ → Result (List Event) FrameFault
built start bytes es i zero = Ok es
built start bytes es i (suc n) = elim (event_answer bytes i) [ None ↦ Ok es | Some e ↦ elim (add_fault es e) [ None ↦ built start bytes (es ++ e ∷ []) (i + 1) n | Some f ↦ Err (BadSetup (start + 17 * i)) ] ]

-- the net of a setup with these event bytes; else the place of the first event that breaks a rule
abbrev pub net_answer : ℕ → Str → Result (List Event) FrameFault
net_answer start bytes = built start bytes [] 0 48

-- what was made, by its events
abbrev pub net_view : Result Net FrameFault → Result (List Event) FrameFault
net_view (Ok n) = Ok (events_of n)
net_view (Err f) = Err f

-- Events spelled by the bytes of a setup from the first on, each of them sound.
abbrev pub Spelled : Str → List Event → Type 0
Spelled bytes es = (k : ℕ) (d : Event) → k < length es → (event_answer bytes k ≡ Some (slice_index_or es k d)) × (event_fault (slice_index_or es k d) ≡ None)

-- What a setup gives: all the events that its bytes spell, or the place of the first that is not sound.
pub data Gives (start : ℕ) (bytes : Str) : Result (List Event) FrameFault → Type 0 where
  whole : (es : List Event) → Spelled bytes es → (event_answer bytes (length es) ≡ None) ⊎ (length es ≡ 48) → Gives start bytes (Ok es)
  broken : (es : List Event) (e : Event) (f : EventFault) → Spelled bytes es → event_answer bytes (length es) ≡ Some e → event_fault e ≡ Some f → Gives start bytes (Err (BadSetup (start + 17 * length es)))

abbrev pub SetupsGiveNets : Type 0
SetupsGiveNets = (start : ℕ) (bytes : Str) → Gives start bytes (net_answer start bytes)
