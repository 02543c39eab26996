-- The facts of every position, and the positions that are put together, in the words of the Laws.
use Rattle.std.specs.Prelude.{ℕ, ◌≡◌, ◌≢◌, ◌<◌, ◌≤◌, ◌↔◌, IfSome, Some}
use Rattle.std.specs.Prelude.{Result, Ok, Err, length, count_by, min, max}
use Rattle.chess_board.specs.declared.board.Side.{Side}
use Rattle.chess_board.specs.declared.board.Kind.TheVariants.{Pawn, Rook, King}
use Rattle.chess_board.specs.declared.board.BuildFault.{BuildFault}
use Rattle.chess_board.specs.declared.board.BuildFault.TheVariants.{Board, Kings}
use Rattle.chess_board.specs.declared.board.Variant.{Variant}
use Rattle.chess_board.specs.declared.board.Variant.TheVariants.{Normal, Fischer}
use Rattle.chess_board.specs.declared.board.Wing.{Wing}
use Rattle.chess_board.specs.declared.board.Wing.TheVariants.{HSide, ASide}
use Rattle.chess_board.specs.Board.{Pieces, piece_at, other, is_of_side, is_king, rank_of_square, square_at}
use Rattle.chess_board.specs.Position.{Position}
use Rattle.chess_board.specs.Rules.{first_rank, corner_file, right_of}
use Rattle.chess_board.specs.Laws.{Beyond, Castles, CastlesShort, CastlesLong, IsChecked, CanCaptureEnPassant}
use Rattle.chess_board.specs.Play.{position_if_built, top_count}

-- where king and rook stand when castling is still possible: in normal chess on the file e and in the corner
abbrev pub BeginOn : Variant → Wing → ℕ → ℕ → Type 0
BeginOn Normal wing king rook = (king ≡ 4) × (rook ≡ corner_file wing)
BeginOn Fischer wing king rook = Unit {0}

-- A king of the side and, beyond him towards the wing, a rook stand on the side's first rank.
pub record AreHome (variant : Variant) (pieces : Pieces) (side : Side) (wing : Wing) (rook : ℕ) : Type 0 where
  pub inside : rook < 8
  pub rook_there : piece_at pieces (square_at rook (first_rank side)) ≡ Some (side, Rook)
  pub king : ℕ
  pub king_inside : king < 8
  pub king_there : piece_at pieces (square_at king (first_rank side)) ≡ Some (side, King)
  pub beyond : Beyond wing king rook
  pub begin : BeginOn variant wing king rook

-- no pawn stands on the first or last rank
abbrev pub NoEndPawn : Pieces → Type 0
NoEndPawn pieces =
    (s : ℕ) (side : Side) → s < 64 → piece_at pieces s ≡ Some (side, Pawn)
    → (rank_of_square s ≢ 0) × (rank_of_square s ≢ 7)

-- at most 16 pieces a side, and no pawn where none can be
abbrev pub FitsBoard : Pieces → Type 0
FitsBoard pieces = NoEndPawn pieces × ((side : Side) → count_by (is_of_side side) pieces ≤ 16)

-- one king a side, and the side that has just moved is not in check (article 3.9.2)
abbrev pub FitsKings : Pieces → Side → Type 0
FitsKings pieces side = ((s : Side) → count_by (is_king s) pieces ≡ 1) × (¬ IsChecked pieces (other side))

-- what holds of every position
pub record PositionInvariant (p : Position) : Type 0 where
  pub whole : length p.pieces ≡ 64
  pub board : FitsBoard p.pieces
  pub kings : FitsKings p.pieces p.side
  pub rights : (side : Side) (wing : Wing) (rook : ℕ) → right_of p.rights side wing ≡ Some rook
      → AreHome p.rights.variant p.pieces side wing rook
  pub passant : IfSome p.passant (CanCaptureEnPassant p)
  pub half : p.half ≤ top_count
  pub full : (1 ≤ p.full) × (p.full ≤ top_count)

-- The parts of a position as they were given, except for rights whose king or rook is not at home,
-- an en passant square on which no legal capture is possible, and counts out of range.
pub record Settles (given p : Position) : Type 0 where
  pub pieces : p.pieces ≡ given.pieces
  pub side : p.side ≡ given.side
  pub rights : (side : Side) (wing : Wing) (rook : ℕ)
      → (right_of p.rights side wing ≡ Some rook)
      ↔ ((right_of given.rights side wing ≡ Some rook) × AreHome given.rights.variant given.pieces side wing rook)
  pub passant : (at : ℕ)
      → (p.passant ≡ Some at)
      ↔ ((given.passant ≡ Some at) × CanCaptureEnPassant (record p { passant = Some at }) at)
  pub half : p.half ≡ min given.half top_count
  pub full : p.full ≡ max 1 (min given.full top_count)
  pub variant : p.rights.variant ≡ given.rights.variant

-- what is put together from parts: a fault of the board, else one of the kings, else a position
abbrev pub Builds : Position → Result Position BuildFault → Type 0
Builds given (Err Board) = ¬ FitsBoard given.pieces
Builds given (Err Kings) = FitsBoard given.pieces × (¬ FitsKings given.pieces given.side)
Builds given (Ok p) = FitsBoard given.pieces × FitsKings given.pieces given.side × Settles given p

-- what `build` answers is what the Laws say
abbrev pub BuildLaw : Type 0
BuildLaw = (given : Position) → Builds given (position_if_built given)

-- In normal chess castling is that of article 3.8.2, square by square.
abbrev pub NormalCastlingLaw : Type 0
NormalCastlingLaw =
    (p : Position) (from to : ℕ) → PositionInvariant p → p.rights.variant ≡ Normal → from < 64 → to < 64
    → piece_at p.pieces from ≡ Some (p.side, King)
    → (Castles p HSide from to ↔ CastlesShort p from to) × (Castles p ASide from to ↔ CastlesLong p from to)
