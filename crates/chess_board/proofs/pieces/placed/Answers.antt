use Rattle.chess_board.proofs.Sets.{placed_in, placed_out}
use Rattle.chess_board.proofs.pieces.placed.Goals as goal

pub returns-then-belongs : goal.returns-then-belongs
returns-then-belongs c = placed_in c.args.set c.args.at.index c.args.belongs c.if-belongs.true c.args.at.on_board

pub returns-else-belongs : goal.returns-else-belongs
returns-else-belongs c = placed_out c.args.set c.args.at.index c.args.belongs c.if-belongs.false c.args.at.on_board
