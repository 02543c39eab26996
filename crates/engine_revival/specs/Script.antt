-- The marks of a script of version 1, and what is written for each.
use Rattle.std.specs.Prelude.{◌≡◌, ℕ, List, [], ◌∷◌, ◌++◌, codes}
use Rattle.std.specs.Prelude.{Bool, true, false, not, if◌then◌else◌}
use Rattle.line_io.specs.Event.{Event, Iface, IfaceEnd, Engine, EngineLong, EngineEnd}
use Rattle.script_lines.specs.StepText.{marks_of_written}
use Rattle.engine_revival.specs.declared.state.RevivalState.{RevivalState}
use Rattle.engine_revival.specs.Steps.{opening_revival, state_once_ended, may_begin, is_alive, is_ended}
use Rattle.engine_revival.specs.Calls.{RevivalCall, Order, Heard, Begin}
use Rattle.engine_revival.specs.Calls.{Over, revival_after, up_of, child_of}

-- The events that may come. No line of the engine comes after it was over.
abbrev pub may_happen : RevivalState → Event → Bool
may_happen s (Iface line) = not (is_ended s.life)
may_happen s IfaceEnd = not (is_ended s.life)
may_happen s (Engine line) = is_alive s.life
may_happen s EngineLong = is_alive s.life
may_happen s EngineEnd = is_alive s.life
may_happen s event = false

-- The last call of an event: a line of the interface is an order, and its end is `quit`; after the
-- end of a life, which is the mark of a long line of the engine, another begins or none follows;
-- and none follows after the engine's end.
abbrev pub call_of_event : RevivalState → Event → RevivalCall
call_of_event s (Iface line) = Order line
call_of_event s IfaceEnd = Order (codes "quit")
call_of_event s (Engine line) = Heard line
call_of_event s EngineLong = if may_begin s then Begin else Over
call_of_event s event = Over

-- the state in which it comes
abbrev pub state_before : RevivalState → Event → RevivalState
state_before s EngineLong = state_once_ended s
state_before s event = s

abbrev pub revival_state_after : RevivalState → Event → RevivalState
revival_state_after s event = revival_after (state_before s event) (call_of_event s event)

-- the mark of the event, and those of the lines up and to the engine
abbrev pub revival_event_text : RevivalState → Event → List ℕ
revival_event_text s event =
    marks_of_written event (up_of (state_before s event) (call_of_event s event))
    (child_of (state_before s event) (call_of_event s event))

-- EVENTS IN A ROW, THE FIRST ONE FIRST

-- Each of them may come at its place.
abbrev pub AllMayHappen : RevivalState → List Event → Type 0
AllMayHappen s [] = Unit {0}
AllMayHappen s (event ∷ events) =
    (may_happen s event ≡ true) × AllMayHappen (revival_state_after s event) events

-- the state after them
abbrev pub state_behind : RevivalState → List Event → RevivalState
state_behind s [] = s
state_behind s (event ∷ events) = state_behind (revival_state_after s event) events

-- their texts, one after the other
abbrev pub texts_from : RevivalState → List Event → List ℕ
texts_from s [] = []
texts_from s (event ∷ events) = revival_event_text s event ++ texts_from (revival_state_after s event) events

-- the script of an engine that is started again, if so many lives may be begun
abbrev pub revival_script : ℕ → List Event → List ℕ
revival_script lives events = texts_from (opening_revival lives) events
