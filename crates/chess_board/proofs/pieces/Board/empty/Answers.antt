use Rattle.std.proofs.Common.{refl}
use Rattle.chess_board.specs.Board.{squares}
use Rattle.chess_board.proofs.Sets.{length-men_of}
use Rattle.chess_board.proofs.pieces.Board.empty.Goals as goal

pub invariant_of-result : goal.invariant_of-result
unfolding squares
invariant_of-result c = refl

pub returns : goal.returns
returns c = length-men_of (record { white = 0; black = 0; pawns = 0; knights = 0; bishops = 0; rooks = 0; queens = 0; kings = 0 })
