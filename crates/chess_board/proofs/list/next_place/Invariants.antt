use Rattle.std.proofs.Common.{◌≡◌, ◌≤◌, ◌<◌, ◌-◌, ℕ, false}
use Rattle.chess_board.specs.Reach.{has}
use Rattle.chess_board.specs.Place.{ordered_square}
use Rattle.chess_board.proofs.list.next_place.Given as goal

-- no square of the set at a place so far
abbrev pub invariant-loop-place : goal.invariant-loop-place
invariant-loop-place l = ((l.from ≤ l.place) × (l.place ≤ 64)) × ((k : ℕ) → l.from ≤ k → k < l.place → has l.set (ordered_square k) ≡ false)

abbrev pub decreases-loop-place : goal.decreases-loop-place
decreases-loop-place l = 64 - l.place
