use Rattle.std.proofs.Common.{sym, ◌∙◌, arith}
use Rattle.chess_board.specs.Place.{has_way_from}
use Rattle.chess_board.proofs.Below.{some_square-hit, some_square-none}
use Rattle.chess_board.proofs.Ways.{no_way_from}
use Rattle.chess_board.proofs.list.has_move_from.Goals as goal

pub returns-then-not-has_own_piece : goal.returns-then-not-has_own_piece
returns-then-not-has_own_piece c = sym (no_way_from c.args.setup.now c.args.from.index (sym c.has_own_piece.ensures ∙ c.if-not-has_own_piece.true))

pub returns-then-has_move_between : goal.returns-then-has_move_between
unfolding has_way_from
returns-then-has_move_between c = sym (some_square-hit _ c.loop-index.index (omega arith) (sym c.has_move_between.ensures ∙ c.if-has_move_between.true))

pub returns : goal.returns
unfolding has_way_from
returns c = sym (some_square-none _ c.loop-index.index (omega arith) c.loop-index.invariant)
