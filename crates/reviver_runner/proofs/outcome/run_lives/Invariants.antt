-- A life goes on, after those that have ended.
use Rattle.std.proofs.Common.{◌≡◌, ◌+◌}
use Rattle.std.specs.Prelude.{map, string_bytes}
use Rattle.std.specs.VecDeque.{deque_len, deque_capacity}
use Rattle.reviver_runner.specs.Messages.{events_sent}
use Rattle.reviver_runner.specs.Looped.{loop_reports}
use Rattle.reviver_runner.specs.Lives.{LifeGoesOn, LivesGoOn, HostGoes, host_shown}
use Rattle.reviver_runner.specs.Parts.{ReviverKeepsEnds}
use Rattle.reviver_runner.proofs.outcome.run_lives.Given as goal

abbrev pub invariant-loop : goal.invariant-loop
invariant-loop g l = record {
  arguments : l.runs.arguments ≡ l.fn.runs.arguments;
  space : deque_capacity l.runs.ended ≡ deque_capacity l.fn.runs.ended;
  processes : deque_len l.parts.processes ≡ deque_len l.runs.ended + 1;
  keeps : ReviverKeepsEnds l.fn.parts l.parts;
  lives : l.parts.looping.revival.state.lives ≡ l.fn.parts.looping.revival.state.lives;
  goes : LifeGoesOn l.parts.looping.revival.state (deque_len l.runs.ended);
  host : HostGoes (map string_bytes l.fn.runs.arguments.items) (host_shown g.H.Host.ledger g.H.Host.faults g.H.Host.asked l.fn.host)
      (host_shown g.H.Host.ledger g.H.Host.faults g.H.Host.asked l.host) (deque_len l.runs.ended);
  going : LivesGoOn g.H.EngineSource.Source.state g.H.EngineSink.Sink.state (g.H.Host.ledger l.fn.host).says (g.H.Host.ledger l.fn.host).sinks_report
      (loop_reports g.O.Sink.state g.H.Log.Sink.state l.fn.parts.looping l.fn.output) (loop_reports g.O.Sink.state g.H.Log.Sink.state l.parts.looping l.output)
      (events_sent l.parts.to) l.runs.ended.items l.runs.tally l.run;
}
