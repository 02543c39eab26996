use Rattle.std.proofs.Common.{◌≡◌, true}
use Rattle.chess_board.specs.Board.{each_below}
use Rattle.chess_board.specs.Rules.{is_safe}
use Rattle.chess_board.proofs.castling.is_way_safe.Given as goal

-- all so far
abbrev pub invariant-loop-file : goal.invariant-loop-file
invariant-loop-file l = each_below l.file (is_safe l.board l.side l.wing l.king) ≡ true
