-- The events of a script, what comes of each, and what is written for them.
use Rattle.std.specs.Prelude.{◌≡◌, ℕ, ◌≤◌, List, [], ◌∷◌, ◌++◌, length}
use Rattle.std.specs.Prelude.{map, codes, Bool, true, false, not}
use Rattle.std.specs.List.{flat_map}
use Rattle.line_io.specs.Event.{Event, Iface, IfaceEnd, Engine, EngineEnd, has_feed}
use Rattle.line_io.specs.Lines.{parts_by_feed}
use Rattle.script_lines.specs.Marks.{Mark, Happens, ToIface, ToEngine}
use Rattle.script_lines.specs.StepText.{marks_of_written}
use Rattle.cecp_driver.specs.declared.driver.DriverParts.{DriverParts}
use Rattle.cecp_driver.specs.declared.driver.TheConstants.{LINE_LIMIT}
use Rattle.cecp_driver.specs.Driver.{Orders, DriverHears, EngineEndGives}

-- The events that may come: lines of both sides and their ends, but nothing of
-- the engine behind its end.
abbrev pub may_come : DriverParts → Event → Bool
may_come v (Iface line) = true
may_come v IfaceEnd = true
may_come v (Engine line) = not v.talk.gone
may_come v EngineEnd = not v.talk.gone
may_come v event = false

-- the outcome of an event: a line of the interface is an order, and its end is `quit`
abbrev pub DriverEventGives : Event → DriverParts → DriverParts → Type 0
DriverEventGives (Iface line) v v' = Orders line v v'
DriverEventGives IfaceEnd v v' = Orders (codes "quit") v v'
DriverEventGives (Engine line) v v' = DriverHears line v v'
DriverEventGives EngineEnd v v' = EngineEndGives v v'
DriverEventGives event v v' = ⊥

-- a line of a peer is no longer than a line may be, and has no line feed
abbrev pub IsPeerLine : Event → Type 0
IsPeerLine (Iface line) = (length line ≤ LINE_LIMIT) × (has_feed line ≡ false)
IsPeerLine (Engine line) = (length line ≤ LINE_LIMIT) × (has_feed line ≡ false)
IsPeerLine event = Unit {0}

-- The event may come, its line is one, and this comes of it.
pub record DriverTakes (event : Event) (v v' : DriverParts) : Type 0 where
  pub may : may_come v event ≡ true
  pub is_line : IsPeerLine event
  pub comes : DriverEventGives event v v'

-- the mark of an event, and those of the lines that were given for it
abbrev pub given_marks : Event → DriverParts → List ℕ
given_marks event v' = marks_of_written event v'.up.text v'.down.text

-- LISTS OF EVENTS

-- The driver takes these events, one by one, and is so after each.
abbrev pub DriverTakesAll : DriverParts → List Event → List DriverParts → Type 0
DriverTakesAll v [] [] = Unit {0}
DriverTakesAll v [] (v' ∷ later) = ⊥
DriverTakesAll v (event ∷ events) [] = ⊥
DriverTakesAll v (event ∷ events) (v' ∷ later) = DriverTakes event v v' × DriverTakesAll v' events later

-- the state after the last of them
abbrev pub last_of : DriverParts → List DriverParts → DriverParts
last_of v [] = v
last_of v (v' ∷ later) = last_of v' later

-- the marks of all these events, and of what was given for each
abbrev pub script_text : List Event → List DriverParts → List ℕ
script_text [] after = []
script_text (event ∷ events) [] = []
script_text (event ∷ events) (v' ∷ later) = given_marks event v' ++ script_text events later

-- the same as marks: the event, and each line that was given for it
abbrev pub marks_given : Event → DriverParts → List Mark
marks_given event v' =
    Happens event ∷ (map ToIface (parts_by_feed v'.up.text) ++ map ToEngine (parts_by_feed v'.down.text))

abbrev pub script_marks : List Event → List DriverParts → List Mark
script_marks [] after = []
script_marks (event ∷ events) [] = []
script_marks (event ∷ events) (v' ∷ later) = marks_given event v' ++ script_marks events later

-- all the lines that were given for the interface
abbrev pub driver_lines_up : List DriverParts → List ℕ
driver_lines_up after = flat_map (λ v'. v'.up.text) after

-- all the lines that were given for the engine
abbrev pub lines_down : List DriverParts → List ℕ
lines_down after = flat_map (λ v'. v'.down.text) after
