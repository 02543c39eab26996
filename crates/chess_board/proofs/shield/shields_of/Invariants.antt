use Rattle.std.proofs.Common.{◌-◌, ◌<◌, ℕ}
use Rattle.chess_board.specs.Reach.{Shields}
use Rattle.chess_board.proofs.shield.shields_of.Given as goal

-- the shields from each square so far
abbrev pub invariant-loop-index : goal.invariant-loop-index
invariant-loop-index l = (from : ℕ) → from < l.index → Shields l.board l.fn.side from l.at.index l.shields

abbrev pub decreases-loop-index : goal.decreases-loop-index
decreases-loop-index l = 64 - l.index
