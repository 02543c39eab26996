use Rattle.chess_board.proofs.LegalMoves.{is_legal}
use Rattle.think_text.proofs.Legal.{legal_writable}
use Rattle.think_text.proofs.texts.written.Goals as goal

pub squares_of-requires : goal.squares_of-requires
squares_of-requires c = legal_writable c.args.at.now c.args.m c.requires

pub write_san-requires : goal.write_san-requires
write_san-requires c = is_legal c.args.at.now c.args.m c.requires
