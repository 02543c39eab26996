-- The result of a run of the bridge.
use Rattle.std.specs.Prelude.{◌≡◌, ◌<◌, ℕ, List, map, true, IfSome}
use Rattle.policy_rules.specs.declared.setting_rules.settings.Settings.{Settings}
use Rattle.adapter_core.specs.Trace.{Step, LawfulTrace, event_of_step}
use Rattle.program_lifecycle.specs.declared.failures.Failures.{Failures}
use Rattle.program_lifecycle.specs.Early.{no_failure}
use Rattle.program_lifecycle.specs.Outside.{Outside, AreReported, HostIsClosed}
use Rattle.event_loop.specs.Mediated.{Mediated}
use Rattle.bridge_runner.specs.declared.session.Session.{Session}
use Rattle.bridge_runner.specs.Plays.{IsNew, session_meaning}
use Rattle.bridge_runner.specs.Recorded.{BridgeRecorded, BridgeRunIsWhole}

-- The reads and writes are those of one run of a new session, whose turns are
-- those of one lawful trace.
pub record Bridged (settings : Settings) (first : List ℕ) (before after : Outside)
    (failures : Failures) : Type 0 where
  pub session : Session
  pub new : IsNew settings session
  pub mediated : Mediated session_meaning session first before after failures
  -- it is the one lawful trace of its events
  pub only : (other : List Step) → LawfulTrace settings other
      → map event_of_step other ≡ map event_of_step mediated.ran.looped.did.trace
      → other ≡ mediated.ran.looped.did.trace
  -- the ledger's record of the trace that the run made
  pub recorded : BridgeRecorded settings mediated.ran.looped.did.trace before.ledger after.ledger failures

-- the result of the bridge, whether an engine was started or not
pub record BridgeLeaves (settings : Settings) (first : List ℕ) (before after : Outside)
    (failures : Failures) : Type 0 where
  pub reported : AreReported before after failures
  pub closed : HostIsClosed after.ledger failures
  -- if no engine was started, nothing was read or written
  pub nothing : after.ledger.runs_out ≡ 0
      → (after.input ≡ before.input) × (after.output ≡ before.output)
  pub unstarted : failures.engine_start ≡ true → after.ledger.runs_out ≡ 0
  pub bridged : 0 < after.ledger.runs_out → Bridged settings first before after failures
  -- if nothing failed, over a host that reports its bytes
  pub whole : failures ≡ no_failure → before.ledger.sinks_report ≡ true
      → IfSome before.ledger.says (λ bytes. BridgeRunIsWhole settings first bytes before after)
