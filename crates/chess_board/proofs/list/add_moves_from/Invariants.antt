use Rattle.std.proofs.Common.{◌+◌, ◌*◌, ◌-◌, ◌≤◌}
use Rattle.chess_board.specs.Place.{IsDone}
use Rattle.chess_board.proofs.list.add_moves_from.Given as goal

abbrev pub invariant-loop-to_place : goal.invariant-loop-to_place
invariant-loop-to_place l = (l.to_place ≤ 64) × IsDone l.setup l.moves.items (l.from_place * 320 + l.to_place * 5)

abbrev pub decreases-loop-to_place : goal.decreases-loop-to_place
decreases-loop-to_place l = 64 - l.to_place
