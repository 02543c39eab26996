-- The rest of the rank completes the text.
use Rattle.std.proofs.Common.{◌≡◌, ◌+◌, ◌≤◌, ◌++◌, drop, length}
use Rattle.fen_text.specs.Written.{rank_text, rank_row}
use Rattle.fen_text.proofs.write.write_rank.Given as goal

abbrev pub invariant-loop-file : goal.invariant-loop-file
invariant-loop-file l = record {
  text : l.text.items ++ rank_text l.empty (drop l.file (rank_row l.p.pieces l.rank)) ≡ l.initial.text.items ++ rank_text 0 (rank_row l.p.pieces l.rank);
  short : length l.text.items + l.empty ≤ length l.initial.text.items + l.file;
  empty : l.empty ≤ l.file;
}
