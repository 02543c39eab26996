use Rattle.std.proofs.Common.{refl}
use Rattle.chess_board.specs.Board.{squares}
use Rattle.chess_board.proofs.pieces.Board.start.Goals as goal

pub invariant_of-result : goal.invariant_of-result
unfolding squares
invariant_of-result c = refl

pub returns : goal.returns
unfolding squares
returns c = refl
