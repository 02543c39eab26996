-- The pieces of a board by sets of squares, one for each side and one for each kind.
use Rattle.std.specs.Prelude.{ℕ, ◌≡◌, Some, None, Bool, true, false, if◌then◌else◌, map}
use Rattle.std.specs.List.{range_with_len}
use Rattle.std.specs.Simd.Lanes.{mask_l}
use Rattle.chess_board.specs.declared.board.Side.TheVariants.{White, Black}
use Rattle.chess_board.specs.declared.board.Kind.{Kind}
use Rattle.chess_board.specs.declared.board.Kind.TheVariants.{Pawn, Knight, Bishop}
use Rattle.chess_board.specs.declared.board.Kind.TheVariants.{Rook, Queen, King}
use Rattle.chess_board.specs.declared.pieces.Board.TheInside.{Inside}
use Rattle.chess_board.specs.Reach.{has}
use Rattle.chess_board.specs.Board.{Occupant, Pieces, is_of_side, squares}

abbrev pub same_board_kind : Kind → Kind → Bool
same_board_kind Pawn Pawn = true
same_board_kind Knight Knight = true
same_board_kind Bishop Bishop = true
same_board_kind Rook Rook = true
same_board_kind Queen Queen = true
same_board_kind King King = true
same_board_kind _ _ = false

-- whether a piece is of the kind
abbrev pub is_a : Kind → Occupant → Bool
is_a piece None = false
is_a piece (Some occupant) = same_board_kind piece occupant.1

-- the kind by the first of five tests that holds
abbrev pub kind_by_tests : Bool → Bool → Bool → Bool → Bool → Kind
kind_by_tests pawn knight bishop rook queen =
    if pawn then Pawn
    else (if knight then Knight
    else (if bishop then Bishop else (if rook then Rook else (if queen then Queen else King))))

abbrev pub piece_by : Bool → Bool → Kind → Occupant
piece_by white black piece =
    if white then Some (White, piece) else (if black then Some (Black, piece) else None)

-- what stands on a square, by the sets
abbrev pub piece_by_sets : Inside → ℕ → Occupant
piece_by_sets a s =
    piece_by (has a.white s) (has a.black s)
    (kind_by_tests (has a.pawns s) (has a.knights s) (has a.bishops s) (has a.rooks s) (has a.queens s))

-- what stands on each square
abbrev pub pieces_by_sets : Inside → Pieces
pieces_by_sets a = map (piece_by_sets a) (range_with_len 0 squares)

-- the set of the squares on which pieces stand that pass a test
abbrev pub set_of : (Occupant → Bool) → Pieces → ℕ
set_of test pieces = mask_l (map test pieces)

abbrev pub sets_of : Pieces → Inside
sets_of pieces = record {
  white = set_of (is_of_side White) pieces;
  black = set_of (is_of_side Black) pieces;
  pawns = set_of (is_a Pawn) pieces;
  knights = set_of (is_a Knight) pieces;
  bishops = set_of (is_a Bishop) pieces;
  rooks = set_of (is_a Rook) pieces;
  queens = set_of (is_a Queen) pieces;
  kings = set_of (is_a King) pieces;
}

-- The sets are those of the pieces that they give: on each square no piece, or one
-- of one side and one kind.
abbrev pub AreSets : Inside → Type 0
AreSets a = sets_of (pieces_by_sets a) ≡ a
