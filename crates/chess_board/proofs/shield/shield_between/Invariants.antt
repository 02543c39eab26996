use Rattle.std.proofs.Common.{◌≡◌, ◌+◌, ◌-◌, true}
use Rattle.chess_board.specs.Board.{piece_at, is_vacant, on_the_way, each_below}
use Rattle.chess_board.proofs.shield.shield_between.Given as goal

-- the squares passed so far are empty
abbrev pub invariant-loop-step : goal.invariant-loop-step
invariant-loop-step l = each_below (l.step - 1) (λ k. is_vacant (piece_at l.board (on_the_way l.from.index l.to.index (k + 1)))) ≡ true
