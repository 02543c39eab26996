use Rattle.std.proofs.Common.{◌^◌, ◌<◌, arith, refl}
use Rattle.chess_board.specs.Play.{is_minor}
use Rattle.chess_board.proofs.Sets.{count_set}
use Rattle.chess_board.proofs.pieces.Board.count_minors.Goals as goal

pub returns : goal.returns
returns c =
    let low : c.minor_set.result < 2 ^ 64 = omega arith in
    count_set is_minor refl c.args.self.now c.minor_set.result c.minor_set.ensures.whole low c.minor_set.ensures.set
