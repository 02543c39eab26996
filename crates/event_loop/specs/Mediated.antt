-- The result of a run.
use Rattle.std.specs.Prelude.{◌≡◌, ◌<◌, ◌⊎◌, true, false, [], ◌∷◌, ℕ, List}
use Rattle.event_pipe.specs.Arrivals.{is_read_fault}
use Rattle.child_engine.specs.Hosts.{Ledger, shown_run}
use Rattle.program_lifecycle.specs.Streams.{RunStreams}
use Rattle.program_lifecycle.specs.declared.failures.Failures.{Failures}
use Rattle.program_lifecycle.specs.Logs.{closed_logs}
use Rattle.program_lifecycle.specs.Readers.{lacked_memory}
use Rattle.program_lifecycle.specs.Outside.{Outside, AreReported, HostIsClosed}
use Rattle.program_lifecycle.specs.Reporting.{first_streams}
use Rattle.event_loop.specs.declared.run.RunEnd.{RunEnd}
use Rattle.event_loop.specs.Meaning.{MediatorMeaning}
use Rattle.event_loop.specs.Ran.{MediatorRan}

-- the answers of the readers and the loop are reported
pub record MediatorReportsRun (run : RunEnd) (failures : Failures) : Type 0 where
  pub iface_read : failures.iface_read ≡ is_read_fault run.iface
  pub iface_write : failures.iface_write ≡ run.done.output
  pub engine_read : failures.engine_read ≡ is_read_fault run.engine
  pub engine_write : failures.engine_write ≡ run.done.engine
  pub iface_memory : failures.memory ≡ false → lacked_memory run.iface ≡ false
  pub engine_memory : failures.memory ≡ false → lacked_memory run.engine ≡ false
  pub log : failures.log ≡ false → run.done.log ≡ false

-- why a run that was made reports no memory: a reader had none for a line, or there was none
-- to open the log
abbrev pub MediatorLackedMemory : Ledger → RunEnd → Failures → Type 0
MediatorLackedMemory ledger run failures =
    (lacked_memory run.iface ≡ true)
    ⊎ ((lacked_memory run.engine ≡ true) ⊎ ((ledger.logs_out ≡ 0) × (failures.log ≡ false)))

-- The reads and writes are those of one run of both pipes, which began with these
-- first lines, with fresh streams of the engine and with a fresh log; they are in the
-- ledger as they were at its end.
pub record Mediated {M : Type 0} (means : MediatorMeaning M) (m0 : M) (first : List ℕ)
    (before after : Outside) (failures : Failures) : Type 0 where
  pub last : RunStreams
  pub end : RunEnd
  pub became : M
  pub ran : MediatorRan means m0 became first (first_streams before after.ledger) last end
  pub reported : MediatorReportsRun end failures
  pub memory : failures.memory ≡ true → MediatorLackedMemory after.ledger end failures
  pub input : last.input ≡ after.input
  pub output : last.into.output ≡ after.output
  pub run_reported : after.ledger.runs ≡ shown_run last.source last.into.engine ∷ []
  pub shown_logs : after.ledger.logs ≡ closed_logs after.ledger.logs_out last.into.log

-- the result of a run, whether an engine was started or not
pub record MediatorLeaves {M : Type 0} (means : MediatorMeaning M) (m0 : M) (first : List ℕ)
    (before after : Outside) (failures : Failures) : Type 0 where
  pub reported : AreReported before after failures
  pub closed : HostIsClosed after.ledger failures
  -- if no engine was started, nothing was read or written
  pub nothing : after.ledger.runs_out ≡ 0
      → (after.input ≡ before.input) × (after.output ≡ before.output)
  pub unstarted : failures.engine_start ≡ true → after.ledger.runs_out ≡ 0
  pub mediated : 0 < after.ledger.runs_out → Mediated means m0 first before after failures
