use Rattle.std.proofs.Common.{arith}
use Rattle.chess_board.proofs.Sets.{has-without}
use Rattle.chess_board.proofs.reach.without.Goals as goal

pub returns : goal.returns
returns c s low = has-without c.args.set c.args.other s (omega arith) low
