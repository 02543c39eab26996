use Rattle.std.proofs.Common.{◌≡◌, ℕ, ◌+◌, ◌≤◌, ◌^◌, true, false}
use Rattle.line_io.specs.Lines.{IsLineReady, IsWaiting}
use Rattle.line_io.specs.Taken.{Place, reading_place}
use Rattle.line_io.specs.Turns.{ConsumerReached, work}
use Rattle.line_io.proofs.turns.take_held.Given as goal

-- from where it was before, it has come to here
abbrev pub invariant-loop-is_ready : goal.invariant-loop-is_ready
invariant-loop-is_ready g l = record {
  ready : l.is_ready ≡ true → IsLineReady l.lines;
  waits : l.is_ready ≡ false → IsWaiting l.lines;
  may : g.T.LineConsumer.means.may l.consumer;
  few : l.count + work l.lines ≤ 2 ^ 63 + 2 ^ 34 + 2;
  reached : (first : Place g.row.T.Denot g.row.O.Denot) (limit calls : ℕ)
      → ConsumerReached g.T.LineConsumer.means limit first (reading_place l.fn.consumer l.fn.output (g.I.Source.state l.fn.input)) l.fn.lines calls l.fn.count
      → (later : ℕ) × (calls ≤ later) × ConsumerReached g.T.LineConsumer.means limit first (reading_place l.consumer l.output (g.I.Source.state l.input)) l.lines later l.count;
}

abbrev pub decreases-loop-is_ready : goal.decreases-loop-is_ready
decreases-loop-is_ready g l = work l.lines
