-- The rest of the rank completes the row.
use Rattle.std.proofs.Common.{◌≡◌, Some, drop}
use Rattle.fen_text.specs.Squares.{pieces_if_both, squares_in}
use Rattle.fen_text.proofs.squares.read_rank.Given as goal

abbrev pub invariant-loop-byte : goal.invariant-loop-byte
invariant-loop-byte l = pieces_if_both (Some l.row.items) (squares_in (drop l.byte-index l.rank)) ≡ squares_in l.rank
