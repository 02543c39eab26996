use Rattle.chess_board.proofs.Following.{play-law}
use Rattle.chess_board.proofs.laws.playing_is_lawful.Goals as goal

pub returns : goal.returns
returns c = play-law
