use Rattle.std.proofs.Common.{◌≡◌, ◌&&◌, false}
use Rattle.chess_board.specs.Board.{some_below}
use Rattle.san_text.specs.Writing.{is_rival, is_within}
use Rattle.san_text.proofs.pieces.has_rival.Given as goal

-- none so far
abbrev pub invariant-loop-index : goal.invariant-loop-index
invariant-loop-index l = some_below l.index (λ s. is_within l.within s l.m.from.index && is_rival l.at l.m s) ≡ false
