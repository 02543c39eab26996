use Rattle.std.proofs.Common.{◌^◌, ◌<◌, arith, refl}
use Rattle.chess_board.specs.Play.{is_piece}
use Rattle.chess_board.proofs.Sets.{count_set}
use Rattle.chess_board.proofs.pieces.Board.count_pieces.Goals as goal

pub returns : goal.returns
returns c =
    let low : c.pieces_set.result < 2 ^ 64 = omega arith in
    count_set is_piece refl c.args.self.now c.pieces_set.result c.pieces_set.ensures.whole low c.pieces_set.ensures.set
