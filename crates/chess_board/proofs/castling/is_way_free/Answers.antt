use Rattle.std.proofs.Common.{sym, ◌∙◌, arith}
use Rattle.chess_board.specs.Rules.{is_passable}
use Rattle.chess_board.proofs.Below.{each_below-less, each_below-miss}
use Rattle.chess_board.proofs.castling.is_way_free.Goals as goal

pub returns-then-not-is_free_to_castle : goal.returns-then-not-is_free_to_castle
returns-then-not-is_free_to_castle c = sym (each_below-miss 8 c.loop-file.file (is_passable c.args.board.now c.args.side c.args.wing c.args.king c.args.rook) (omega arith) (sym c.is_free_to_castle.ensures ∙ c.if-not-is_free_to_castle.true))

pub returns : goal.returns
returns c = sym (each_below-less 8 c.loop-file.file (is_passable c.args.board.now c.args.side c.args.wing c.args.king c.args.rook) (omega arith) c.loop-file.invariant)
