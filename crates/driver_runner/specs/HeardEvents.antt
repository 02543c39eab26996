-- The events that a driver is given.
use Rattle.std.specs.Prelude.{List, Bool, true, false, not, filter}
use Rattle.line_io.specs.Event.{Event, IfaceLong, EngineLong}

abbrev pub is_long_event : Event → Bool
is_long_event IfaceLong = true
is_long_event EngineLong = true
is_long_event e = false

abbrev pub is_not_long : Event → Bool
is_not_long e = not (is_long_event e)

-- long lines are ignored
abbrev pub without_long : List Event → List Event
without_long events = filter is_not_long events
