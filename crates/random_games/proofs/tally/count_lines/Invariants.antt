use Rattle.std.proofs.Common.{◌≡◌, ◌+◌, ◌≤◌, length}
use Rattle.line_io.specs.Lines.{parts_by_feed}
use Rattle.random_games.proofs.tally.count_lines.Given as goal

-- the lines that were counted and those to come are all lines
abbrev pub invariant-loop-rest : goal.invariant-loop-rest
invariant-loop-rest l = record {
  lines : l.count + length (parts_by_feed l.rest) ≡ length (parts_by_feed l.text);
  few : l.count + length l.rest ≤ length l.text;
}

abbrev pub decreases-loop-rest : goal.decreases-loop-rest
decreases-loop-rest l = length l.rest
