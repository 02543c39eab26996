-- The result of a run of the driver.
use Rattle.std.specs.Prelude.{◌≡◌, ◌<◌, true, [], IfSome}
use Rattle.event_pipe.specs.declared.message.Peer.TheVariants as peers
use Rattle.event_pipe.specs.Events.{sent_by}
use Rattle.program_lifecycle.specs.declared.failures.Failures.{Failures}
use Rattle.program_lifecycle.specs.Early.{no_failure}
use Rattle.program_lifecycle.specs.Outside.{Outside, AreReported, HostIsClosed}
use Rattle.event_loop.specs.Turns.{events_of_turns}
use Rattle.event_loop.specs.Mediated.{Mediated}
use Rattle.driver_runner.specs.declared.driving.Driving.{Driving}
use Rattle.driver_runner.specs.Drives.{driving_meaning}
use Rattle.driver_runner.specs.Recorded.{DriverRecorded, DriverRunIsWhole}

-- The reads and writes are those of one run of a new driver, whose turns
-- are those of its script.
pub record DriverRunIs (before after : Outside) (failures : Failures) : Type 0 where
  pub driving : Driving
  pub mediated : Mediated driving_meaning driving [] before after failures
  -- the ledger's record of the events that the driver took
  pub recorded : DriverRecorded (events_of_turns mediated.ran.looped.turns) mediated.ran.looped.did.states
      (sent_by peers.Engine mediated.ran.later) before.ledger after.ledger failures

-- the result of a run, whether an engine was started or not
pub record DriverLeaves (before after : Outside) (failures : Failures) : Type 0 where
  pub reported : AreReported before after failures
  pub closed : HostIsClosed after.ledger failures
  -- if no engine was started, nothing was read or written
  pub nothing : after.ledger.runs_out ≡ 0
      → (after.input ≡ before.input) × (after.output ≡ before.output)
  pub unstarted : failures.engine_start ≡ true → after.ledger.runs_out ≡ 0
  pub driven : 0 < after.ledger.runs_out → DriverRunIs before after failures
  -- if nothing failed, over a host that reports its bytes
  pub whole : failures ≡ no_failure → before.ledger.sinks_report ≡ true
      → IfSome before.ledger.says (λ bytes. DriverRunIsWhole bytes before after)
