-- The record of a run of the driver in the ledger of a host that reports its bytes.
use Rattle.std.specs.Prelude.{◌≡◌, ℕ, List, [], ◌∷◌, Some}
use Rattle.std.specs.Io.KnownBytes.{Appends}
use Rattle.line_io.specs.Event.{Event}
use Rattle.line_io.specs.Source.{Supplied}
use Rattle.line_io.specs.Lines.{items}
use Rattle.event_pipe.specs.declared.message.Peer.{Peer}
use Rattle.event_pipe.specs.declared.message.Peer.TheVariants as peers
use Rattle.event_pipe.specs.declared.reader.ReadEnd.{ReadEnd}
use Rattle.event_pipe.specs.declared.reader.ReadEnd.TheVariants as read_ends
use Rattle.event_pipe.specs.Events.{sent_by}
use Rattle.event_pipe.specs.Arrivals.{Arrived, arrivals, line_limit}
use Rattle.cecp_driver.specs.declared.driver.DriverParts.{DriverParts}
use Rattle.cecp_driver.specs.Driver.{opening_driver}
use Rattle.cecp_driver.specs.Runs.{IsSoundDrive}
use Rattle.cecp_driver.specs.Script.{DriverTakesAll, script_text, driver_lines_up, lines_down}
use Rattle.child_engine.specs.Hosts.{Ledger}
use Rattle.program_lifecycle.specs.declared.failures.Failures.{Failures}
use Rattle.program_lifecycle.specs.Outside.{Outside}
use Rattle.event_loop.specs.Recorded.{RecordedAs}
use Rattle.driver_runner.specs.HeardEvents.{without_long}

-- The peer's events among these are all that arrived from it, except long lines.
pub record ComeFrom (p : Peer) (before after : Supplied) (events : List Event)
    (end : ReadEnd) : Type 0 where
  pub arrived : List Event
  pub did_arrive : Arrived p before after arrived end
  pub are : sent_by p events ≡ without_long arrived

-- The ledger's record of a run in which a new driver took these events, and was this after each,
-- if the host reports its bytes: the log is their script, and the engine took the driver's lines.
-- This arrived of the engine.
abbrev pub DriverRecorded : List Event → List DriverParts → List Event → Ledger → Ledger → Failures → Type 0
DriverRecorded events states arrived before after failures =
    RecordedAs (script_text events states) (lines_down states) arrived before after failures

-- A run in which nothing failed, over a host that reports its bytes, whose engine says these: a new
-- driver took the events of both sides' bytes.
pub record DriverRunIsWhole (bytes : List ℕ) (before after : Outside) : Type 0 where
  pub events : List Event
  pub states : List DriverParts
  pub goes : DriverTakesAll opening_driver events states
  pub sound : IsSoundDrive events states
  -- the log's bytes are the script of the events
  pub log : after.ledger.logs ≡ Some (script_text events states) ∷ []
  -- which are those of the bytes that both sides gave, except long lines:
  -- the engine all that it says
  pub engine :
      sent_by peers.Engine events ≡ without_long (arrivals peers.Engine (items line_limit bytes))
  pub iface : ComeFrom peers.Iface before.input after.input events read_ends.Done
  -- both sides took the driver's lines, and no byte of the engine is left
  pub run : after.ledger.runs
      ≡ record { given = Some bytes; left = Some []; taken = Some (lines_down states) } ∷ []
  pub output : Appends before.output.taken after.output.taken (driver_lines_up states)
