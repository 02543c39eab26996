-- The state of a host that never fails.
use Rattle.std.specs.Prelude.{ℕ, zero, suc, false, List, [], ◌∷◌, ◌++◌, Option, Some, None, map}
use Rattle.line_io.specs.Memory.{steady_of}
use Rattle.line_io.specs.Source.{Supplied, Received}
use Rattle.line_io.specs.declared.memory.SteadySource.{SteadySource}
use Rattle.child_engine.specs.Hosts.{Ledger, shown_run}
use Rattle.child_engine.specs.declared.host.Faults.{Faults}
use Rattle.child_engine.specs.declared.steady.SteadyHost.{SteadyHost}

-- no call failed
abbrev pub no_faults : Faults
no_faults = record { starts = 0; reads = 0; writes = 0; logs = 0; waits = 0 }

abbrev pub shown_by_steady_source : SteadySource → Supplied
shown_by_steady_source s = record {
  given = Some (steady_of s).given;
  left = Some (steady_of s).left;
  faults = (steady_of s).faults;
}

-- a sink that reports nothing and never failed
abbrev pub steady_mute_sink : Received
steady_mute_sink = record { taken = None; faults = 0 }

-- so many logs that report nothing
abbrev pub mute_logs : ℕ → List (Option (List ℕ))
mute_logs zero = []
mute_logs (suc n) = mute_logs n ++ None ∷ []

abbrev pub steady_ledger : SteadyHost → Ledger
steady_ledger h =
    record {
      says = Some h.engine.items;
      sinks_report = false;
      runs_out = h.runs_out;
      logs_out = h.logs_out;
      runs = map (λ source. shown_run (shown_by_steady_source source) steady_mute_sink) h.runs.items;
      logs = mute_logs h.logs_closed;
    }

-- the bytes that each engine says, and how many of them a read gives
pub record SteadyEngine : Type 0 where
  pub engine : List ℕ
  pub piece : ℕ

abbrev pub says_of : SteadyHost → SteadyEngine
says_of h = record { engine = h.engine.items; piece = h.piece }
