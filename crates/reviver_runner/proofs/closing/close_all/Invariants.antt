-- The parts that closing the remaining runs adds to the closed ones.
use Rattle.std.proofs.Common.{◌≡◌, ℕ, ◌+◌, ◌++◌, length}
use Rattle.event_pipe.specs.Counts.{CountsFault}
use Rattle.child_engine.specs.Hosts.{RisesBy}
use Rattle.reviver_runner.specs.Closing.{run_source_faults, run_sink_faults, shown_runs}
use Rattle.reviver_runner.proofs.closing.close_all.Given as goal

abbrev pub invariant-loop-run : goal.invariant-loop-run
invariant-loop-run g l = record {
  count : length (g.H.Host.ledger l.host).runs + length l.left.items ≡ (g.H.Host.ledger l.host).runs_out;
  processes : length l.processes.items ≡ length l.left.items;
  reported : (g.H.Host.ledger l.host).runs ++ shown_runs g.H.EngineSource.Source.state g.H.EngineSink.Sink.state l.left.items
      ≡ (g.H.Host.ledger l.fn.host).runs ++ shown_runs g.H.EngineSource.Source.state g.H.EngineSink.Sink.state l.fn.runs.items;
  out : (g.H.Host.ledger l.host).runs_out ≡ (g.H.Host.ledger l.fn.host).runs_out;
  logs_out : (g.H.Host.ledger l.host).logs_out ≡ (g.H.Host.ledger l.fn.host).logs_out;
  ledger_logs : (g.H.Host.ledger l.host).logs ≡ (g.H.Host.ledger l.fn.host).logs;
  waits : CountsFault (g.H.Host.faults l.fn.host).waits (g.H.Host.faults l.host).waits l.failed;
  reads : (n : ℕ) → RisesBy (run_source_faults g.H.EngineSource.Source.state l.left.items) (g.H.Host.faults l.host).reads n
      → RisesBy (run_source_faults g.H.EngineSource.Source.state l.fn.runs.items) (g.H.Host.faults l.fn.host).reads n;
  writes : (n : ℕ) → RisesBy (run_sink_faults g.H.EngineSink.Sink.state l.left.items) (g.H.Host.faults l.host).writes n
      → RisesBy (run_sink_faults g.H.EngineSink.Sink.state l.fn.runs.items) (g.H.Host.faults l.fn.host).writes n;
  starts : (g.H.Host.faults l.host).starts ≡ (g.H.Host.faults l.fn.host).starts;
  logs : (g.H.Host.faults l.host).logs ≡ (g.H.Host.faults l.fn.host).logs;
  asked : g.H.Host.asked l.host ≡ g.H.Host.asked l.fn.host;
}

abbrev pub decreases-loop-run : goal.decreases-loop-run
decreases-loop-run g l = length l.left.items
