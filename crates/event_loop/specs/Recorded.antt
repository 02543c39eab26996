-- The record of a run in the ledger of a host that reports its bytes.
use Rattle.std.specs.Prelude.{◌≡◌, ℕ, true, false, List, [], ◌∷◌, Some}
use Rattle.line_io.specs.Event.{Event}
use Rattle.child_engine.specs.Hosts.{ShownRun, Ledger}
use Rattle.program_lifecycle.specs.declared.failures.Failures.{Failures}
use Rattle.program_lifecycle.specs.Reporting.{EngineGave, LogHasPrefix}

-- The ledger's record of a run that put this into the log and gave these lines to the engine, of
-- which this arrived, if the host reports its bytes.
pub record RecordedAs (put lines : List ℕ) (arrived : List Event) (before after : Ledger)
    (failures : Failures) : Type 0 where
  pub run : ShownRun
  pub only : after.runs ≡ run ∷ []
  -- the log's bytes are what was put
  pub log : before.sinks_report ≡ true → after.logs_out ≡ 1 → failures.log ≡ false
      → after.logs ≡ Some put ∷ []
  -- and a prefix of it, if the log failed
  pub prefix : before.sinks_report ≡ true → after.logs_out ≡ 1 → LogHasPrefix put after
  -- the engine took its lines
  pub lines_taken : before.sinks_report ≡ true → failures.engine_write ≡ false → run.taken ≡ Some lines
  -- the lines that arrived are those that the engine gave
  pub gave : (bytes : List ℕ) → before.says ≡ Some bytes → EngineGave bytes run arrived failures
