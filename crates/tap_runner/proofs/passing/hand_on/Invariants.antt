use Rattle.std.proofs.Common.{◌≡◌}
use Rattle.std.specs.Prelude.{vec_len}
use Rattle.event_pipe.specs.Ends.{KeepsSender, messages_sent}
use Rattle.tap_runner.specs.Passing.{Passing}
use Rattle.tap_runner.proofs.passing.hand_on.Given as goal

abbrev pub invariant-loop : goal.invariant-loop
invariant-loop g l = record {
  keeps : KeepsSender l.fn.way.to l.way.to;
  room : vec_len l.way.buf ≡ vec_len l.fn.way.buf;
  passing : Passing l.fn.way.to.peer l.way.part (g.S.Source.state l.fn.source) (g.S.Source.state l.source)
      (g.K.Sink.state l.fn.sink) (g.K.Sink.state l.sink) (messages_sent l.way.to);
}
