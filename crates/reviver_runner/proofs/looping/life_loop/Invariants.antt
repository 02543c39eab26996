use Rattle.std.proofs.Common.{◌≡◌, true, false}
use Rattle.engine_revival.specs.Steps.{is_alive}
use Rattle.reviver_runner.specs.Looped.{KeepsLoop, Going, loop_reports}
use Rattle.reviver_runner.proofs.looping.life_loop.Given as goal

abbrev pub invariant-loop : goal.invariant-loop
invariant-loop g l = record {
  keeps : KeepsLoop l.fn.looping l.looping;
  alive : is_alive l.looping.revival.state.life ≡ true;
  close_sink : l.fn.looping.revival.state.quit ≡ false → l.looping.revival.state.quit ≡ true → g.K.ClosableSink.is_sink_closed l.child;
  going : Going (loop_reports g.O.Sink.state g.L.Sink.state l.fn.looping l.fn.output) (loop_reports g.O.Sink.state g.L.Sink.state l.looping l.output)
      (g.K.Sink.state l.fn.child) (g.K.Sink.state l.child);
}
