use Rattle.std.proofs.Common.{◌≡◌, true}
use Rattle.chess_board.specs.Board.{each_below}
use Rattle.fen_text.specs.RookFiles.{is_no_rook_beyond}
use Rattle.fen_text.proofs.rook_files.is_outermost.Given as goal

-- all so far
abbrev pub invariant-loop-file : goal.invariant-loop-file
invariant-loop-file l = each_below l.file (is_no_rook_beyond l.pieces l.side l.wing l.rook) ≡ true
