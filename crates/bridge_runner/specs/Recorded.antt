-- The record of a run of the bridge in the ledger of a host that reports its bytes.
use Rattle.std.specs.Prelude.{◌≡◌, ℕ, List, [], ◌∷◌, ◌++◌, false, Some}
use Rattle.std.specs.Io.KnownBytes.{Appends}
use Rattle.line_io.specs.Event.{Event}
use Rattle.line_io.specs.Lines.{items}
use Rattle.policy_rules.specs.declared.setting_rules.settings.Settings.{Settings}
use Rattle.adapter_core.specs.Trace.{Step, LawfulTrace, iface_text, engine_text}
use Rattle.trace_scripts.specs.Script.{script2}
use Rattle.event_pipe.specs.declared.message.Peer.{Peer}
use Rattle.event_pipe.specs.declared.message.Peer.TheVariants as peers
use Rattle.event_pipe.specs.declared.reader.ReadEnd.TheVariants as read_ends
use Rattle.event_pipe.specs.Events.{sent_by}
use Rattle.event_pipe.specs.Arrivals.{arrivals, line_limit}
use Rattle.child_engine.specs.Hosts.{Ledger}
use Rattle.program_lifecycle.specs.declared.failures.Failures.{Failures}
use Rattle.program_lifecycle.specs.Outside.{Outside}
use Rattle.event_loop.specs.First.{first_events, ArrivedBehind}
use Rattle.event_loop.specs.Recorded.{RecordedAs}
use Rattle.bridge_runner.specs.Texts.{events_of_steps, steps_have_loss, step_texts}

-- The ledger's record of a run that made this trace, if the host reports its bytes: the log is the
-- trace's script, the engine took its orders, and it received what the engine gave.
abbrev pub BridgeRecorded : Settings → List Step → Ledger → Ledger → Failures → Type 0
BridgeRecorded settings trace before after failures =
    RecordedAs (script2 settings trace) (step_texts engine_text trace)
    (sent_by peers.Engine (events_of_steps trace)) before after failures

-- A run with these first lines in which nothing failed, over a host that reports its bytes, whose
-- engine says these: it made one lawful trace.
pub record BridgeRunIsWhole (settings : Settings) (first bytes : List ℕ)
    (before after : Outside) : Type 0 where
  pub trace : List Step
  pub lawful : LawfulTrace settings trace
  -- neither side was lost
  pub no_loss : (p : Peer) → steps_have_loss p trace ≡ false
  -- the log's bytes are the script of the trace
  pub log : after.ledger.logs ≡ Some (script2 settings trace) ∷ []
  -- the first lines came before all that both sides gave
  pub later : List Event
  pub begins : events_of_steps trace ≡ first_events first ++ later
  -- its events are those of the bytes that both sides gave: the engine all that it says
  pub engine :
      sent_by peers.Engine (events_of_steps trace) ≡ arrivals peers.Engine (items line_limit bytes)
  pub iface : ArrivedBehind (first_events first) peers.Iface before.input after.input
      (sent_by peers.Iface (events_of_steps trace)) read_ends.Done
  -- both sides took its texts, and no byte of the engine is left
  pub run : after.ledger.runs
      ≡ record { given = Some bytes; left = Some []; taken = Some (step_texts engine_text trace) } ∷ []
  pub output : Appends before.output.taken after.output.taken (step_texts iface_text trace)
