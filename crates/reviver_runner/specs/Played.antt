-- Events in a row, the oldest first: what is given for them.
use Rattle.std.specs.Prelude.{ℕ, suc, List, [], ◌∷◌, ◌++◌, Bool, true, false, filter, ◌||◌}
use Rattle.std.specs.List.{list_any}
use Rattle.line_io.specs.Event.{Event, Iface, IfaceEnd, Engine, EngineLong, EngineEnd}
use Rattle.engine_revival.specs.declared.state.RevivalState.{RevivalState}
use Rattle.engine_revival.specs.Calls.{up_of, child_of}
use Rattle.engine_revival.specs.Script.{state_before, call_of_event, revival_state_after}

-- the lines up, and those to the life, that are given for an event
abbrev pub event_up : RevivalState → Event → List ℕ
event_up s event = up_of (state_before s event) (call_of_event s event)

abbrev pub event_child : RevivalState → Event → List ℕ
event_child s event = child_of (state_before s event) (call_of_event s event)

-- the lines that are given for events, one after the other
abbrev pub revival_lines_up : RevivalState → List Event → List ℕ
revival_lines_up s [] = []
revival_lines_up s (event ∷ events) = event_up s event ++ revival_lines_up (revival_state_after s event) events

abbrev pub lines_to_child : RevivalState → List Event → List ℕ
lines_to_child s [] = []
lines_to_child s (event ∷ events) =
    event_child s event ++ lines_to_child (revival_state_after s event) events

-- an order, the end of the orders, or a line of the present life
abbrev pub is_heard : Event → Bool
is_heard (Iface line) = true
is_heard IfaceEnd = true
is_heard (Engine line) = true
is_heard event = false

-- an order or the end of the orders
abbrev pub is_order : Event → Bool
is_order (Iface line) = true
is_order IfaceEnd = true
is_order event = false

-- the events that the revival hears; long lines of the interface are ignored
abbrev pub events_for_revival : List Event → List Event
events_for_revival events = filter is_heard events

-- the marks of an engine's end
abbrev pub is_life_end_mark : Event → Bool
is_life_end_mark EngineLong = true
is_life_end_mark EngineEnd = true
is_life_end_mark event = false

abbrev pub has_close : List Event → Bool
has_close events = list_any is_life_end_mark events

-- the mark of an engine's end after which no life was started
abbrev pub is_refusal : Event → Bool
is_refusal EngineEnd = true
is_refusal event = false

abbrev pub has_refusal : List Event → Bool
has_refusal events = list_any is_refusal events

-- the mark of a life's end, whatever follows
abbrev pub as_long : Event → Event
as_long EngineEnd = EngineLong
as_long event = event

-- without the interface's long lines
abbrev pub is_heard_order : Event → Bool
is_heard_order event = is_heard event || is_life_end_mark event

abbrev pub reported_of : List Event → List Event
reported_of events = filter is_heard_order events

-- how many lives have ended by these events
abbrev pub ends_in : List Event → ℕ
ends_in [] = 0
ends_in (EngineLong ∷ events) = suc (ends_in events)
ends_in (event ∷ events) = ends_in events
