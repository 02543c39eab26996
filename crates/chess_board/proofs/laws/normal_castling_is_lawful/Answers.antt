use Rattle.chess_board.proofs.NormalCastling.{normal-castling}
use Rattle.chess_board.proofs.laws.normal_castling_is_lawful.Goals as goal

pub returns : goal.returns
returns c = normal-castling
