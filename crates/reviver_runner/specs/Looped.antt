-- The result of the loop of a life.
use Rattle.std.specs.Prelude.{◌≡◌, ◌≤◌, ℕ, List, [], ◌∷◌, ◌++◌, Bool, true, false, is_some}
use Rattle.line_io.specs.Event.{Event}
use Rattle.line_io.specs.Source.{Received}
use Rattle.engine_revival.specs.declared.script.TheConstants.{EVENT_ROOM}
use Rattle.engine_revival.specs.declared.state.RevivalState.{RevivalState}
use Rattle.engine_revival.specs.Script.{AllMayHappen, state_behind, texts_from}
use Rattle.event_pipe.specs.Ends.{IsReceiver, KeepsReceiver}
use Rattle.reviver_runner.specs.Messages.{events_taken, life_end}
use Rattle.program_lifecycle.specs.declared.offering.LoopEnd.{LoopEnd}
use Rattle.program_lifecycle.specs.Streams.{Sinks, Offered, log_state}
use Rattle.reviver_runner.specs.declared.looping.MarkedLog.{MarkedLog}
use Rattle.reviver_runner.specs.declared.looping.RevivalLoop.{RevivalLoop}
use Rattle.reviver_runner.specs.Played.{revival_lines_up, lines_to_child, events_for_revival, has_close}

-- the log and its room are those of before
pub record KeepsMarks {L : Type 0} (old new : MarkedLog L) : Type 0 where
  pub room : new.text.room ≡ old.text.room
  pub log : is_some new.log ≡ is_some old.log

-- its end of the channel takes, and there is room for the marks of an event
pub record IsReadyLoop {L : Type 0} (looping : RevivalLoop L) : Type 0 where
  pub receiving_end : IsReceiver looping.from
  pub room : EVENT_ROOM ≤ looping.marks.text.room

-- its end of the channel, its log and its room are those of before
pub record KeepsLoop {L : Type 0} (old new : RevivalLoop L) : Type 0 where
  pub receiving_end : KeepsReceiver old.from new.from
  pub marks : KeepsMarks old.marks new.marks

-- The state of a loop: the revival's state, what it took from the channel, what went to the interface
-- and into the log, and which sinks have failed.
pub record LoopState : Type 0 where
  pub state : RevivalState
  pub events : List Event
  pub output : Received
  pub log : Received
  pub failed : LoopEnd

abbrev pub loop_reports : {O L : Type 0} → (O → Received) → (L → Received)
    → RevivalLoop L → O → LoopState
loop_reports to_output to_log looping output =
    record {
      state = looping.revival.state;
      events = events_taken looping.from;
      output = to_output output;
      log = log_state to_log looping.marks.log;
      failed = looping.failed;
    }

-- Each sink was offered its text: what it took of it, by whether it had failed
-- before and has failed now.
pub record Offers (up child marks : List ℕ) (before after : Sinks)
    (failed failed' : LoopEnd) : Type 0 where
  pub output : Offered failed.output failed'.output before.output after.output up
  pub engine : Offered failed.engine failed'.engine before.engine after.engine child
  pub log : Offered failed.log failed'.log before.log after.log marks

-- The revival heard these events, each of which might come, and the interface and the log were
-- offered what is written for them.
pub record PlayedUp (before after : LoopState) (events : List Event) : Type 0 where
  pub may : AllMayHappen before.state events
  pub state_is : after.state ≡ state_behind before.state events
  pub up : Offered before.failed.output after.failed.output before.output after.output
      (revival_lines_up before.state events)
  pub marks : Offered before.failed.log after.failed.log before.log after.log
      (texts_from before.state events)

-- the same, and so was the life
pub record LifePlayed (before after : LoopState) (sink sink' : Received)
    (events : List Event) : Type 0 where
  pub up : PlayedUp before after events
  pub child : Offered before.failed.engine after.failed.engine sink sink'
      (lines_to_child before.state events)

-- how far the loop has come: what was taken so far has no mark of an engine's end
pub record Going (before after : LoopState) (sink sink' : Received) : Type 0 where
  pub events : List Event
  pub taken_is : after.events ≡ before.events ++ events
  pub unended : has_close events ≡ false
  pub played : LifePlayed before after sink sink' (events_for_revival events)

-- The loop of a life is over: it took events, and then the life's end. The revival heard the events, except the interface's long lines, in
-- their order, and no others.
pub record LoopedLife (before after : LoopState) (sink sink' : Received) : Type 0 where
  pub events : List Event
  pub taken_is : after.events ≡ before.events ++ (events ++ life_end ∷ [])
  pub unended : has_close events ≡ false
  pub played : LifePlayed before after sink sink' (events_for_revival events)

-- the life goes on, or its loop is over
abbrev pub GoesOrEnds : Bool → LoopState → LoopState → Received → Received → Type 0
GoesOrEnds true before after sink sink' = Going before after sink sink'
GoesOrEnds false before after sink sink' = LoopedLife before after sink sink'
