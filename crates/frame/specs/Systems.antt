-- The system of a setup that was read: what it holds, and where it stands in the frame.
use Rattle.std.specs.Prelude.{ℕ, List, None, Option}
use Rattle.nets.specs.declared.event.Event.{Event}
use Rattle.frame.specs.Events.{event_answer}
use Rattle.frame.specs.declared.definition.Definitions.{Definitions}
use Rattle.frame.specs.declared.setup.System.{System}
use Rattle.frame.specs.declared.setup.System.TheVariants.{Terms, Net}
use Rattle.frame.specs.Parts.{bodies}
use Rattle.frame.specs.Frames.{SystemView}
use Rattle.frame.specs.Frames.SystemView.{terms, net}

-- the bodies of the definitions
abbrev pub bodies_of : Definitions → List (List ℕ)
bodies_of d = bodies d.count d.bytes.now

abbrev pub system_view : System → SystemView
system_view (Terms definitions) = terms (bodies_of definitions)
system_view (Net events) = net events.bytes.now

-- the event of a number in a net; terms have none
abbrev pub event_of_system : SystemView → ℕ → Option Event
event_of_system (terms bodies) i = None
event_of_system (net events) i = event_answer events i

-- the place of the first definition or event
abbrev pub place_of : System → ℕ
place_of (Terms definitions) = definitions.place
place_of (Net events) = events.place
