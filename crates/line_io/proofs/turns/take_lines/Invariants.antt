use Rattle.std.proofs.Common.{◌≤◌}
use Rattle.line_io.specs.Taken.{reading_place}
use Rattle.line_io.specs.Turns.{ConsumerReached}
use Rattle.line_io.proofs.turns.take_lines.Given as goal

-- each turn is a call
abbrev pub invariant-loop : goal.invariant-loop
invariant-loop g l = record {
  may : g.T.LineConsumer.means.may l.consumer;
  few : l.count ≤ l.counter;
  reached : ConsumerReached g.T.LineConsumer.means l.fn.lines.limit (reading_place l.fn.consumer l.fn.output (g.I.Source.state l.fn.input)) (reading_place l.consumer l.output (g.I.Source.state l.input)) l.lines l.counter l.count;
}
