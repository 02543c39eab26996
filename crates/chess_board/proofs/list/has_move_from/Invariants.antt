use Rattle.std.proofs.Common.{◌≡◌, false}
use Rattle.chess_board.specs.Board.{some_below}
use Rattle.chess_board.specs.Place.{has_way}
use Rattle.chess_board.proofs.list.has_move_from.Given as goal

-- none so far
abbrev pub invariant-loop-index : goal.invariant-loop-index
invariant-loop-index l = some_below l.index (has_way l.setup l.from.index) ≡ false
