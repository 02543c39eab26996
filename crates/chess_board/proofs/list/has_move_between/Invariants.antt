use Rattle.std.proofs.Common.{◌≡◌, false}
use Rattle.chess_board.specs.Board.{some_below}
use Rattle.chess_board.specs.Rules.{is_legal}
use Rattle.chess_board.specs.Place.{nth_promotion}
use Rattle.chess_board.proofs.list.has_move_between.Given as goal

-- none so far
abbrev pub invariant-loop-choice : goal.invariant-loop-choice
invariant-loop-choice l = some_below l.choice (λ choice. is_legal l.setup l.from.index l.to.index (nth_promotion choice)) ≡ false
