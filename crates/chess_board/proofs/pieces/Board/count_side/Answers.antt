use Rattle.std.proofs.Common.{◌^◌, ◌<◌, arith, refl}
use Rattle.chess_board.specs.Board.{is_of_side}
use Rattle.chess_board.proofs.Sets.{count_set}
use Rattle.chess_board.proofs.pieces.Board.count_side.Goals as goal

pub returns : goal.returns
returns c =
    let low : c.side_set.result < 2 ^ 64 = omega arith in
    count_set (is_of_side c.args.side) refl c.args.self.now c.side_set.result c.side_set.ensures.whole low c.side_set.ensures.set
