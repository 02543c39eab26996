use Rattle.std.proofs.Common.{◌≡◌, ◌<◌, ℕ, length}
use Rattle.chess_board.specs.Board.{piece_at}
use Rattle.chess_board.proofs.pieces.Board.of.Given as goal

-- the squares so far have their pieces
abbrev pub invariant-loop-index : goal.invariant-loop-index
invariant-loop-index l = (length l.board ≡ 64) × ((s : ℕ) → s < l.index → piece_at l.board s ≡ piece_at l.squares s)
