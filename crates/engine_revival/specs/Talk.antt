-- The facts of the talk that events bring about.
use Rattle.std.specs.Prelude.{◌≡◌, ℕ, List, [], ◌∷◌, ◌++◌, true}
use Rattle.line_io.specs.Event.{Event, EngineLong}
use Rattle.engine_revival.specs.declared.words.DueOrders.TheVariants as due
use Rattle.engine_revival.specs.declared.state.RevivalState.{RevivalState}
use Rattle.engine_revival.specs.Orders.{RevivalOrder}
use Rattle.engine_revival.specs.Dialogue.{said_in}
use Rattle.engine_revival.specs.Steps.{opening_revival, answer_of, due_of, gives}
use Rattle.engine_revival.specs.Calls.{RevivalCall, Ended, state_after_call}
use Rattle.engine_revival.specs.Script.{AllMayHappen, call_of_event, revival_state_after, state_behind}
use Rattle.engine_revival.specs.Laws.{FitsUp, IsAnswerIn, IsAskedIn, IsGiven, IsPressed}
use Rattle.engine_revival.specs.Laws.{is_answer_awaited, is_whole, revival_state_of, wire_of, IsReadyAnswered}

-- the calls of an event, and those before it: the end of a life is one, and what follows it another
abbrev pub with_calls : RevivalState → Event → List RevivalCall → List RevivalCall
with_calls s EngineLong calls = call_of_event s EngineLong ∷ Ended ∷ calls
with_calls s event calls = call_of_event s event ∷ calls

abbrev pub calls_behind : RevivalState → List Event → List RevivalCall → List RevivalCall
calls_behind s [] calls = calls
calls_behind s (event ∷ events) calls =
    calls_behind (revival_state_after s event) events (with_calls s event calls)

-- the calls of events in a row, the last one first
abbrev pub calls_of : ℕ → List Event → List RevivalCall
calls_of lives events = calls_behind (opening_revival lives) events []

pub record IsLawfulTalk (lives : ℕ) (events : List Event) : Type 0 where
  -- The lines to each life, with those heard from it, are a dialogue in order.
  pub in_order : is_whole (wire_of lives (calls_of lives events)) ≡ true
  -- A line of the engine is passed up only if it is waited for,
  pub waited_for : (line : List ℕ)
      → gives (state_behind (opening_revival lives) events) (said_in line) ≡ true
      → FitsUp (said_in line) (state_behind (opening_revival lives) events).upper
  -- and so is what stands in for it.
  pub stands_in : (call : RevivalCall)
      → IsAnswerIn (answer_of (state_after_call (state_behind (opening_revival lives) events) call))
      (state_after_call (state_behind (opening_revival lives) events) call)
  -- An awaited `info` or `bestmove` of a living engine is passed up,
  pub given : (line : List ℕ)
      → is_answer_awaited (wire_of lives (calls_of lives events)) (said_in line) ≡ true
      → gives (state_behind (opening_revival lives) events) (said_in line) ≡ true
  -- and the engine was asked for it, unless it boots.
  pub asked : IsAskedIn lives (calls_of lives events)
  -- A life that was given a search last got all settings, and the orders of
  -- this search as they came.
  pub searches : (call : RevivalCall) (calls : List RevivalCall)
      → calls_of lives events ≡ call ∷ calls
      → due_of (state_after_call (revival_state_of lives calls) call) ≡ due.Search
      → IsGiven lives call calls
  -- Each accepted `isready` has its `readyok`.
  pub ready : IsReadyAnswered lives (calls_of lives events)
  -- A button or `ucinewgame` goes to the life that it came to.
  pub presses : (call : RevivalCall) (calls : List RevivalCall) (order : RevivalOrder)
      → calls_of lives events ≡ call ∷ calls
      → IsPressed lives call calls order

-- The talk is lawful up to each of the events.
abbrev pub IsAlwaysLawful : ℕ → List Event → Type 0
IsAlwaysLawful lives events =
    (prefix rest : List Event) → events ≡ prefix ++ rest → IsLawfulTalk lives prefix

-- All talk of events that may come is lawful.
abbrev pub TalkIsLawful : Type 0
TalkIsLawful =
    (lives : ℕ) (events : List Event) → AllMayHappen (opening_revival lives) events
    → IsLawfulTalk lives events
