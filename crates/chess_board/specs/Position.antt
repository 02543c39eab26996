-- A position as the Laws see it.
use Rattle.std.specs.Prelude.{ℕ, List, Option}
use Rattle.chess_board.specs.declared.board.Side.{Side}
use Rattle.chess_board.specs.declared.board.Kind.{Kind}
use Rattle.chess_board.specs.declared.board.Rights.{Rights}

-- The occupant of each square, by its number, and what the board does not show: the side on
-- move, the castling rights with the rules by which they were set up, the square of a possible
-- capture en passant, and the counts of half-moves and full moves.
pub record Position : Type 0 where
  pub pieces : List (Option (Side × Kind))
  pub side : Side
  pub rights : Rights
  pub passant : Option ℕ
  pub half : ℕ
  pub full : ℕ
