use Rattle.std.proofs.Common.{◌-◌, ◌≡◌, false, ◌&&◌, None}
use Rattle.chess_board.specs.Board.{some_below, is_pawn, piece_at}
use Rattle.chess_board.specs.Rules.{is_en_passant, is_legal}
use Rattle.chess_board.proofs.play.has_capturer.Given as goal

-- none so far
abbrev pub invariant-loop-index : goal.invariant-loop-index
invariant-loop-index l = some_below l.index (λ from. is_pawn l.setup.side (piece_at l.setup.pieces from) && (is_en_passant l.setup from l.at.index && is_legal l.setup from l.at.index None)) ≡ false

abbrev pub decreases-loop-index : goal.decreases-loop-index
decreases-loop-index l = 64 - l.index
