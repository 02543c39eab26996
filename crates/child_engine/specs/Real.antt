-- The state of the host of real programs: it reports nothing of what its parts gave and took.
use Rattle.std.specs.Prelude.{ℕ, zero, suc, false, List, [], ◌∷◌, ◌++◌, None}
use Rattle.std.specs.Process.{command_program, command_args}
use Rattle.line_io.specs.Source.{Supplied, Received}
use Rattle.child_engine.specs.Hosts.{ShownRun, Ledger, shown_run}
use Rattle.child_engine.specs.Steady.{mute_logs}
use Rattle.child_engine.specs.declared.process.RealProcess.{RealProcess}
use Rattle.child_engine.specs.declared.real.RealHost.{RealHost}

-- a source and a sink that report nothing, and failed so often
abbrev pub mute_source : ℕ → Supplied
mute_source faults = record { given = None; left = None; faults = faults }

abbrev pub real_mute_sink : ℕ → Received
real_mute_sink faults = record { taken = None; faults = faults }

abbrev pub nothing_shown : ShownRun
nothing_shown = shown_run (mute_source 0) (real_mute_sink 0)

-- so many runs that report nothing
abbrev pub mute_runs : ℕ → List ShownRun
mute_runs zero = []
mute_runs (suc n) = mute_runs n ++ nothing_shown ∷ []

abbrev pub real_ledger : {R S : Type 0} → RealHost R S → Ledger
real_ledger h =
    record {
      says = None;
      sinks_report = false;
      runs_out = h.runs_out;
      logs_out = h.logs_out;
      runs = mute_runs h.runs_closed;
      logs = mute_logs h.logs_closed;
    }

-- the arguments of the command that a process was spawned from: its program, and then its arguments
abbrev pub spawned_command : RealProcess → List (List ℕ)
spawned_command process = command_program process.command ∷ command_args process.command
