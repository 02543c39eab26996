use Rattle.std.proofs.Common.{sym, ◌∙◌, arith}
use Rattle.chess_board.specs.Place.{has_any_way}
use Rattle.chess_board.proofs.Below.{some_square-hit, some_square-none}
use Rattle.chess_board.proofs.list.has_legal_move.Goals as goal

pub returns-then-has_move_from : goal.returns-then-has_move_from
unfolding has_any_way
returns-then-has_move_from c = sym (some_square-hit _ c.loop-index.index (omega arith) (sym c.has_move_from.ensures ∙ c.if-has_move_from.true))

pub returns : goal.returns
unfolding has_any_way
returns c = sym (some_square-none _ c.loop-index.index (omega arith) c.loop-index.invariant)
