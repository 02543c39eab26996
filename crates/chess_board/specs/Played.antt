-- The position after a legal move, in the words of the Laws.
use Rattle.std.specs.Prelude.{ℕ, ◌≡◌, ◌≢◌, ◌<◌, ◌+◌, ◌⊎◌, ◌↔◌}
use Rattle.std.specs.Prelude.{Option, Some, None, length, min}
use Rattle.chess_board.specs.declared.board.Side.{Side}
use Rattle.chess_board.specs.declared.board.Kind.{Kind}
use Rattle.chess_board.specs.declared.board.Kind.TheVariants.{Pawn, Rook, King}
use Rattle.chess_board.specs.declared.board.Wing.{Wing}
use Rattle.chess_board.specs.Board.{Pieces, piece_at, other, rank_of_square, files_apart, on_the_way}
use Rattle.chess_board.specs.Board.{square_at}
use Rattle.chess_board.specs.Position.{Position}
use Rattle.chess_board.specs.Rules.{first_rank, second_rank, right_of, king_aim, rook_aim, beside, becomes}
use Rattle.chess_board.specs.Laws.{Ahead, IsOf, IsOnFile, TakesEnPassant, Castles, IsCastling}
use Rattle.chess_board.specs.Laws.{CanCaptureEnPassant, IsLegal}
use Rattle.chess_board.specs.Play.{top_count, full_of, position_after, IsPosition}

-- a pawn captures the one beside it (article 3.7.3)
abbrev pub TakesBeside : Position → Kind → ℕ → ℕ → Type 0
TakesBeside p piece from to = (piece ≡ Pawn) × TakesEnPassant p from to

-- The piece leaves its square and stands on another, in place of what stood there (article
-- 3.1.1). A pawn captured en passant is gone. Every other square is as it was.
pub record MovesPieces (p : Position) (piece : Kind) (from to : ℕ) (promotion : Option Kind)
    (after : Pieces) : Type 0 where
  pub left : piece_at after from ≡ None
  pub arrived : piece_at after to ≡ Some (p.side, becomes piece promotion)
  pub taken : TakesBeside p piece from to → piece_at after (beside from to) ≡ None
  pub others : (s : ℕ) → s ≢ from → s ≢ to → (TakesBeside p piece from to → s ≢ beside from to)
      → piece_at after s ≡ piece_at p.pieces s

-- Castling takes the king to the file g or c and the rook to the file f or d. The squares that they leave are
-- empty, if neither stands there now, and every other square is as it was (article 3.8.2, Guidelines II).
pub record CastlesPieces (p : Position) (wing : Wing) (from rook : ℕ) (after : Pieces) : Type 0 where
  pub king_there : piece_at after (square_at (king_aim wing) (first_rank p.side)) ≡ Some (p.side, King)
  pub rook_there : piece_at after (square_at (rook_aim wing) (first_rank p.side)) ≡ Some (p.side, Rook)
  pub left : (s : ℕ) → (s ≡ from) ⊎ (s ≡ square_at rook (first_rank p.side))
      → s ≢ square_at (king_aim wing) (first_rank p.side)
      → s ≢ square_at (rook_aim wing) (first_rank p.side)
      → piece_at after s ≡ None
  pub others : (s : ℕ) → s ≢ from → s ≢ square_at rook (first_rank p.side)
      → s ≢ square_at (king_aim wing) (first_rank p.side)
      → s ≢ square_at (rook_aim wing) (first_rank p.side)
      → piece_at after s ≡ piece_at p.pieces s

-- A right is lost when its king or its rook moves, or its rook's square is captured on (article 3.8.2).
abbrev pub KeepsRight : Side → Kind → ℕ → ℕ → Side → ℕ → Type 0
KeepsRight mover piece from to side rook =
    (¬ ((mover ≡ side) × (piece ≡ King))) × ((¬ IsOnFile side rook from) × (¬ IsOnFile side rook to))

-- a pawn goes two squares forward over a square
abbrev pub PawnPassesSquare : Side → Kind → ℕ → ℕ → ℕ → Type 0
PawnPassesSquare side piece from to over =
    (piece ≡ Pawn)
    × ((((files_apart from to ≡ 0) × (rank_of_square from ≡ second_rank side))
    × Ahead side (rank_of_square from) (rank_of_square to) 2)
    × (over ≡ on_the_way from to 1))

-- The other side is on move. The pieces have moved, or king and rook have castled. The square that a pawn passed is the en passant square, if a
-- legal capture on it is possible. The half-move count begins again after a pawn's move or a
-- capture (article 9.3), and the full-move count grows after Black's move.
pub record Plays (p : Position) (from to : ℕ) (promotion : Option Kind)
    (q : Position) : Type 0 where
  pub piece : Kind
  pub occupant : piece_at p.pieces from ≡ Some (p.side, piece)
  pub whole : length q.pieces ≡ 64
  pub moved : (¬ IsCastling p piece from to) → MovesPieces p piece from to promotion q.pieces
  pub castled : (wing : Wing) → piece ≡ King → (c : Castles p wing from to)
      → CastlesPieces p wing from c.rook q.pieces
  pub side : q.side ≡ other p.side
  pub rights : (side : Side) (wing : Wing) (rook : ℕ)
      → (right_of q.rights side wing ≡ Some rook)
      ↔ ((right_of p.rights side wing ≡ Some rook) × KeepsRight p.side piece from to side rook)
  pub passant : (at : ℕ)
      → (q.passant ≡ Some at)
      ↔ (PawnPassesSquare p.side piece from to at × CanCaptureEnPassant (record q { passant = Some at }) at)
  pub begun : (piece ≡ Pawn) ⊎ IsOf (other p.side) (piece_at p.pieces to) → q.half ≡ 0
  pub counted : piece ≢ Pawn → (¬ IsOf (other p.side) (piece_at p.pieces to))
      → q.half ≡ min (p.half + 1) top_count
  pub full : q.full ≡ full_of p.side p.full
  pub variant : q.rights.variant ≡ p.rights.variant

-- the position after a legal move is what the Laws say
abbrev pub PlayLaw : Type 0
PlayLaw =
    (p : Position) (from to : ℕ) (promotion : Option Kind) → IsPosition p → from < 64 → to < 64
    → IsLegal p from to promotion → Plays p from to promotion (position_after p from to promotion)
