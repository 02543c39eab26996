use Rattle.std.proofs.Common.{◌≡◌, false}
use Rattle.chess_board.specs.Board.{some_below}
use Rattle.chess_board.specs.Play.{is_king_for}
use Rattle.chess_board.proofs.play.has_king_before.Given as goal

-- none so far
abbrev pub invariant-loop-king : goal.invariant-loop-king
invariant-loop-king l = some_below l.king (is_king_for l.variant l.board l.side l.wing l.rook) ≡ false
