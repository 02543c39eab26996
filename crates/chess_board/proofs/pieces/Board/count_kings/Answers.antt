use Rattle.std.proofs.Common.{◌^◌, ◌<◌, arith, refl}
use Rattle.chess_board.specs.Board.{is_king}
use Rattle.chess_board.proofs.Sets.{count_set}
use Rattle.chess_board.proofs.pieces.Board.count_kings.Goals as goal

pub returns : goal.returns
returns c =
    let low : c.king_set.result < 2 ^ 64 = omega arith in
    count_set (is_king c.args.side) refl c.args.self.now c.king_set.result c.king_set.ensures.whole low c.king_set.ensures.set
