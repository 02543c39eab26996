use Rattle.chess_board.proofs.Standing.{builds-is}
use Rattle.chess_board.proofs.laws.building_is_lawful.Goals as goal

pub returns : goal.returns
returns c = builds-is
