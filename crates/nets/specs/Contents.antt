-- What a net holds: its events, in their order.
use Rattle.std.specs.Prelude.{List}
use Rattle.nets.specs.declared.event.Event.{Event}
use Rattle.nets.specs.declared.net.Net.{Net}

abbrev pub events_of : Net → List Event
events_of n = n.events
