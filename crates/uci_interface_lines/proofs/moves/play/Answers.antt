use Rattle.chess_board.proofs.LegalMoves.{is_legal}
use Rattle.uci_interface_lines.proofs.moves.play.Goals as goal

pub play-requires : goal.play-requires
play-requires c = is_legal c.args.at.now c.args.m c.requires
