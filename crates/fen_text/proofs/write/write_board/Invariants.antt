-- The lower ranks complete the text.
use Rattle.std.proofs.Common.{◌≡◌, ◌+◌, ◌*◌, ◌≤◌, ◌++◌, length}
use Rattle.fen_text.specs.Written.{lower_ranks, top_rank}
use Rattle.fen_text.proofs.write.write_board.Given as goal

abbrev pub invariant-loop-rank : goal.invariant-loop-rank
invariant-loop-rank l = record {
  text : l.text.items ++ lower_ranks l.p.pieces l.rank ≡ l.initial.text.items ++ lower_ranks l.p.pieces top_rank;
  short : length l.text.items + 9 * l.rank ≤ length l.initial.text.items + 63;
}
