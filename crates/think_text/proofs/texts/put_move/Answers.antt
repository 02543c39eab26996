use Rattle.chess_board.proofs.LegalMoves.{is_legal}
use Rattle.think_text.proofs.Legal.{legal_writable}
use Rattle.think_text.proofs.texts.put_move.Goals as goal

pub write_move-requires : goal.write_move-requires
write_move-requires c = legal_writable c.args.at.now c.args.m c.requires.legal

pub write_san-requires : goal.write_san-requires
write_san-requires c = is_legal c.args.at.now c.args.m c.requires.legal
