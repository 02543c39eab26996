use Rattle.chess_board.proofs.Start.{start_of-is}
use Rattle.chess_board.proofs.position.start_of.Goals as goal

pub invariant_of-result : goal.invariant_of-result
invariant_of-result c = rw c.start.ensures (start_of-is c.args.variant)
