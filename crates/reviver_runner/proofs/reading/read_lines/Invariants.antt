use Rattle.std.proofs.Common.{◌≡◌}
use Rattle.event_pipe.specs.Ends.{KeepsSender}
use Rattle.reviver_runner.specs.Messages.{events_sent}
use Rattle.reviver_runner.specs.Reading.{SoFar}
use Rattle.reviver_runner.proofs.reading.read_lines.Given as goal

abbrev pub invariant-loop : goal.invariant-loop
invariant-loop g l = record {
  keeps : KeepsSender l.fn.to l.to;
  read : SoFar l.lines (g.S.Source.state l.fn.source) (g.S.Source.state l.source) (events_sent l.fn.to) (events_sent l.to);
}
