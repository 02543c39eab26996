-- The state of a host whose parts report nothing of what they gave and took.
use Rattle.std.specs.Prelude.{ℕ, false, None}
use Rattle.child_engine.specs.Hosts.{Ledger}
use Rattle.child_engine.specs.Real.{mute_runs}
use Rattle.child_engine.specs.Steady.{mute_logs}

-- so many runs and logs were handed out, and so many were closed
abbrev pub ledger_with : ℕ → ℕ → ℕ → ℕ → Ledger
ledger_with runs logs closed_runs closed_logs =
    record {
      says = None;
      sinks_report = false;
      runs_out = runs;
      logs_out = logs;
      runs = mute_runs closed_runs;
      logs = mute_logs closed_logs;
    }
