use Rattle.std.proofs.Common.{◌+◌, ◌*◌}
use Rattle.chess_board.specs.Place.{IsDone}
use Rattle.chess_board.proofs.list.add_moves_between.Given as goal

abbrev pub invariant-loop-choice : goal.invariant-loop-choice
invariant-loop-choice l = IsDone l.setup l.moves.items (l.from_place * 320 + l.to_place * 5 + l.choice)
