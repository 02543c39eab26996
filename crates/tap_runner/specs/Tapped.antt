-- The result of a run of the tap.
use Rattle.std.specs.Prelude.{◌≡◌, ◌<◌, ◌⊎◌, true, false, [], ◌∷◌, IfSome}
use Rattle.line_io.specs.Source.{Received}
use Rattle.child_engine.specs.Hosts.{Ledger, shown_run}
use Rattle.program_lifecycle.specs.Streams.{RunStreams}
use Rattle.program_lifecycle.specs.declared.failures.Failures.{Failures}
use Rattle.program_lifecycle.specs.Early.{no_failure}
use Rattle.program_lifecycle.specs.Logs.{closed_logs}
use Rattle.program_lifecycle.specs.Outside.{Outside, AreReported, HostIsClosed}
use Rattle.program_lifecycle.specs.Reporting.{first_streams}
use Rattle.tap_runner.specs.declared.run.TapEnd.{TapEnd}
use Rattle.tap_runner.specs.Ran.{TapRan}
use Rattle.tap_runner.specs.Recorded.{TapRecorded, TapRunIsWhole}

-- the answer of a run is reported
pub record TapReportsRun (end : TapEnd) (failures : Failures) : Type 0 where
  pub iface_read : failures.iface_read ≡ end.bridge.read_failed
  pub iface_write : failures.iface_write ≡ end.engine.write_failed
  pub engine_read : failures.engine_read ≡ end.engine.read_failed
  pub engine_write : failures.engine_write ≡ end.bridge.write_failed
  pub bridge_memory : failures.memory ≡ false → end.bridge.has_lacked_memory ≡ false
  pub engine_memory : failures.memory ≡ false → end.engine.has_lacked_memory ≡ false
  pub log : failures.log ≡ false → end.log_failed ≡ false

-- why a run that was made reports no memory: there was none for a mark, or none to open the log
abbrev pub TapLackedMemory : Ledger → TapEnd → Failures → Type 0
TapLackedMemory ledger end failures =
    (end.bridge.has_lacked_memory ≡ true)
    ⊎ ((end.engine.has_lacked_memory ≡ true) ⊎ ((ledger.logs_out ≡ 0) × (failures.log ≡ false)))

-- The reads and writes are those of one run of both directions, which began with fresh streams
-- of the engine and a fresh log; they are in the ledger as they were at its end. `OutputGone` says
-- that the output was closed, and `EngineGone` of what an engine's input showed that it was.
pub record Tapped (OutputGone : Type 0) (EngineGone : Received → Type 0) (before after : Outside)
    (failures : Failures) : Type 0 where
  pub last : RunStreams
  pub end : TapEnd
  pub ran : TapRan (first_streams before after.ledger) last end
  pub reported : TapReportsRun end failures
  pub memory : failures.memory ≡ true → TapLackedMemory after.ledger end failures
  pub input : last.input ≡ after.input
  pub output : last.into.output ≡ after.output
  pub run_reported : after.ledger.runs ≡ shown_run last.source last.into.engine ∷ []
  pub shown_logs : after.ledger.logs ≡ closed_logs after.ledger.logs_out last.into.log
  pub recorded : TapRecorded ran.from_bridge.got ran.from_engine.got ran.messages
      before.ledger after.ledger failures
  -- the ends were handed on
  pub output_gone : OutputGone
  pub engine_gone : EngineGone last.into.engine

-- the result of a run, whether an engine was started or not
pub record TapLeaves (OutputGone : Type 0) (EngineGone : Received → Type 0) (before after : Outside)
    (failures : Failures) : Type 0 where
  pub reported : AreReported before after failures
  pub closed : HostIsClosed after.ledger failures
  -- if no engine was started, nothing was read or written
  pub nothing : after.ledger.runs_out ≡ 0
      → (after.input ≡ before.input) × (after.output ≡ before.output)
  pub unstarted : failures.engine_start ≡ true → after.ledger.runs_out ≡ 0
  pub tapped : 0 < after.ledger.runs_out → Tapped OutputGone EngineGone before after failures
  -- if nothing failed, over a host that reports its bytes
  pub whole : failures ≡ no_failure → before.ledger.sinks_report ≡ true
      → IfSome before.ledger.says (λ bytes. TapRunIsWhole bytes before after)
