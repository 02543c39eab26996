use Rattle.reviver_runner.specs.Looped.{KeepsLoop, loop_reports}
use Rattle.reviver_runner.specs.Drained.{InterfaceDrained}
use Rattle.reviver_runner.proofs.drain.drain.Given as goal

abbrev pub invariant-loop : goal.invariant-loop
invariant-loop g l = record {
  keeps : KeepsLoop l.fn.looping l.looping;
  drained : InterfaceDrained (loop_reports g.O.Sink.state g.L.Sink.state l.fn.looping l.fn.output) (loop_reports g.O.Sink.state g.L.Sink.state l.looping l.output);
}
