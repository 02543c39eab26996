-- The record of a run in the ledger of a host that reports its bytes.
use Rattle.std.specs.Prelude.{◌≡◌, ℕ, true, false, List, [], ◌∷◌, ◌++◌, Some}
use Rattle.line_io.specs.Event.{Event}
use Rattle.line_io.specs.Lines.{items}
use Rattle.line_io.specs.Runs.{whole}
use Rattle.event_pipe.specs.declared.message.Peer.TheVariants as peers
use Rattle.event_pipe.specs.Arrivals.{arrivals, line_limit}
use Rattle.program_lifecycle.specs.Streams.{RunStreams, run_streams, sinks}
use Rattle.child_engine.specs.Hosts.{ShownRun, Ledger, fresh_source, fresh_sink}
use Rattle.program_lifecycle.specs.declared.failures.Failures.{Failures}
use Rattle.program_lifecycle.specs.Logs.{fresh_log}
use Rattle.program_lifecycle.specs.Outside.{Outside}

-- The streams of a run at its beginning: the interface's as they stood, and the
-- engine's and the log's fresh.
abbrev pub first_streams : Outside → Ledger → RunStreams
first_streams before closed =
    run_streams before.input (fresh_source before.ledger.says)
    (sinks before.output (fresh_sink before.ledger.sinks_report)
    (fresh_log before.ledger.sinks_report closed.logs_out))

-- The engine says these bytes. Those that it gave are a prefix of them, and
-- what arrived is their lines.
pub record EngineGave (bytes : List ℕ) (run : ShownRun) (arrived : List Event)
    (failures : Failures) : Type 0 where
  pub got : List ℕ
  pub rest : List ℕ
  pub is : bytes ≡ got ++ rest
  pub given : run.given ≡ Some got
  pub left : run.left ≡ Some rest
  -- all of them, if nothing failed
  pub all : failures.engine_read ≡ false → failures.memory ≡ false
      → (rest ≡ []) × (arrived ≡ arrivals peers.Engine (items line_limit got))
  -- if reading failed, those that a line feed ended
  pub at_fault : failures.engine_read ≡ true
      → arrived ≡ arrivals peers.Engine (whole line_limit got)

-- the one log has a prefix of this text
pub record LogHasPrefix (text : List ℕ) (ledger : Ledger) : Type 0 where
  pub prefix : List ℕ
  pub rest : List ℕ
  pub is : text ≡ prefix ++ rest
  pub has : ledger.logs ≡ Some prefix ∷ []
