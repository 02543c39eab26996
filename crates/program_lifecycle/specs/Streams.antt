-- The bytes that the streams of a run show, and the part that a sink takes of a piece.
use Rattle.std.specs.Prelude.{◌≡◌, ◌≢◌, ℕ, List, [], ◌++◌, Bool, true, false, Option, Some, None}
use Rattle.std.specs.Io.KnownBytes.{Appends}
use Rattle.line_io.specs.Source.{Supplied, Received}
use Rattle.event_pipe.specs.Counts.{CountsFault}
use Rattle.program_lifecycle.specs.declared.streams.Interface.{Interface}
use Rattle.program_lifecycle.specs.declared.streams.HandedStreams.{HandedStreams}

-- the reports of the sinks of a loop: `output` goes to the interface
pub record Sinks : Type 0 where
  pub output : Received
  pub engine : Received
  pub log : Received

abbrev pub sinks : Received → Received → Received → Sinks
sinks output engine log = record { output = output; engine = engine; log = log }

-- the reports of all streams of a run: `input` comes from the interface, `source` from the engine
pub record RunStreams : Type 0 where
  pub input : Supplied
  pub source : Supplied
  pub into : Sinks

abbrev pub run_streams : Supplied → Supplied → Sinks → RunStreams
run_streams input source into = record { input = input; source = source; into = into }

-- a log that is missing shows nothing
abbrev pub log_state : {L : Type 0} → (L → Received) → Option L → Received
log_state state None = record { taken = None; faults = 0 }
log_state state (Some log) = state log

-- the sinks of a loop, by what each shows
abbrev pub sinks_of : {O E L : Type 0} → (O → Received) → (E → Received) → (L → Received) → O → E
    → Option L → Sinks
sinks_of to_output to_engine to_log output engine log =
    sinks (to_output output) (to_engine engine) (log_state to_log log)

-- the interface's streams and those that were handed out, by what each shows
abbrev pub streams_of : {I O S E L : Type 0} → (I → Supplied) → (O → Received) → (S → Supplied)
    → (E → Received) → (L → Received) → Interface I O → HandedStreams S E L → RunStreams
streams_of input output source engine log interface handed =
    run_streams (input interface.input) (source handed.source)
    (sinks_of output engine log interface.output handed.engine handed.log)

-- a sink took a prefix of a text
pub record TookPrefix (text : List ℕ) (old new : Option (List ℕ)) : Type 0 where
  pub prefix : List ℕ
  pub rest : List ℕ
  pub is : text ≡ prefix ++ rest
  pub took : Appends old new prefix

-- The part of a piece that a sink took, by whether it had failed before and has failed now: all of it; or a
-- prefix, if it failed now; or nothing, if it had failed.
pub record Offered (failed failed' : Bool) (old new : Received) (piece : List ℕ) : Type 0 where
  pub stays : failed ≡ true → (failed' ≡ true) × (new ≡ old)
  pub whole : failed' ≡ false → Appends old.taken new.taken piece
  pub prefix : failed ≡ false → failed' ≡ true → (piece ≢ []) × TookPrefix piece old.taken new.taken
  pub count : failed ≡ false → CountsFault old.faults new.faults failed'
