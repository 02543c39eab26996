-- The text of a position: six fields with one blank between.
use Rattle.std.specs.Prelude.{ℕ, ◌≡◌, ◌≤◌, ◌<◌, IfSome, zero, suc, ◌+◌, ◌*◌, ◌||◌}
use Rattle.std.specs.Prelude.{nat_lt, if◌then◌else◌, List, [], ◌∷◌, ◌++◌, length}
use Rattle.std.specs.Prelude.{take, drop, Option, Some, None, is_some, Ok, decimal}
use Rattle.std.specs.List.{join_with_byte}
use Rattle.chess_board.specs.declared.board.Side.{Side}
use Rattle.chess_board.specs.declared.board.Side.TheVariants.{White, Black}
use Rattle.chess_board.specs.declared.board.Kind.{Kind}
use Rattle.chess_board.specs.declared.board.Kind.TheVariants.{Pawn, Knight, Bishop}
use Rattle.chess_board.specs.declared.board.Kind.TheVariants.{Rook, Queen, King}
use Rattle.chess_board.specs.declared.board.Rights.{Rights}
use Rattle.chess_board.specs.declared.board.Variant.{Variant}
use Rattle.chess_board.specs.declared.board.Variant.TheVariants.{Normal, Fischer}
use Rattle.chess_board.specs.Board.{Pieces, file_of, rank_of_square}
use Rattle.chess_board.specs.Position.{Position}
use Rattle.chess_board.specs.Play.{IsPosition}
use Rattle.fen_text.specs.Fen.{position_of, position_by}
use Rattle.fen_text.specs.Squares.{case_step}
use Rattle.protocol_tokens.specs.Bytes.{digit_zero, slash, dash, blank}
use Rattle.chess_board.specs.Text.{letter_a, digit_one}

abbrev pub kind_letter : Kind → ℕ
kind_letter Pawn = 80
kind_letter Knight = 78
kind_letter Bishop = 66
kind_letter Rook = 82
kind_letter Queen = 81
kind_letter King = 75

abbrev pub letter_of : Side → Kind → ℕ
letter_of White kind = kind_letter kind
letter_of Black kind = kind_letter kind + case_step

-- the digit of a run of empty squares, if there are some
abbrev pub empty_run : ℕ → List ℕ
empty_run empty = if nat_lt 0 empty then (digit_zero + empty) ∷ [] else []

-- the squares of a rank, after a run of empty ones: each run is one digit
abbrev pub rank_text : ℕ → Pieces → List ℕ
rank_text empty [] = empty_run empty
rank_text empty (None ∷ squares) = rank_text (suc empty) squares
rank_text empty (Some occupant ∷ squares) = empty_run empty ++ letter_of occupant.0 occupant.1 ∷ rank_text 0 squares

-- the eight squares of a rank
abbrev pub rank_row : Pieces → ℕ → Pieces
rank_row pieces rank = take 8 (drop (8 * rank) pieces)

-- the ranks below this one, each after a slash, the upper one first
abbrev pub lower_ranks : Pieces → ℕ → List ℕ
lower_ranks pieces zero = []
lower_ranks pieces (suc rank) = slash ∷ (rank_text 0 (rank_row pieces rank) ++ lower_ranks pieces rank)

-- the ranks below the top one; kept closed, since the recursion would unfold
unfoldable pub top_rank : ℕ
top_rank = 7

unfoldable pub board_text : Pieces → List ℕ
board_text pieces = rank_text 0 (rank_row pieces top_rank) ++ lower_ranks pieces top_rank

abbrev pub side_text : Side → List ℕ
side_text White = 119 ∷ []
side_text Black = 98 ∷ []

-- the letter of a right: in normal chess that of its wing, in Chess960 that of the rook's file, counted from
-- the letter of the file a
abbrev pub right_text : Variant → ℕ → ℕ → Option ℕ → List ℕ
right_text variant wing a None = []
right_text Normal wing a (Some file) = wing ∷ []
right_text Fischer wing a (Some file) = (a + file) ∷ []

-- White's capital letters and Black's small ones, those of the h-side first: KQkq or such as HAha; or a dash
abbrev pub rights_text : Rights → List ℕ
rights_text rights =
    if (is_some rights.wk || is_some rights.wq) || (is_some rights.bk || is_some rights.bq)
    then right_text rights.variant 75 65 rights.wk
    ++ (right_text rights.variant 81 65 rights.wq
    ++ (right_text rights.variant 107 97 rights.bk ++ right_text rights.variant 113 97 rights.bq))
    else dash ∷ []

-- each right is a file
pub record AreFiles (rights : Rights) : Type 0 where
  pub wk : IfSome rights.wk (λ file. file < 8)
  pub wq : IfSome rights.wq (λ file. file < 8)
  pub bk : IfSome rights.bk (λ file. file < 8)
  pub bq : IfSome rights.bq (λ file. file < 8)

abbrev pub en_passant_text : Option ℕ → List ℕ
en_passant_text None = dash ∷ []
en_passant_text (Some at) = (letter_a + file_of at) ∷ (digit_one + rank_of_square at) ∷ []

abbrev pub fields_text : Position → List (List ℕ)
fields_text p =
    board_text p.pieces ∷ side_text p.side ∷ rights_text p.rights ∷ en_passant_text p.passant
    ∷ decimal p.half ∷ decimal p.full ∷ []

-- the text of a position
unfoldable pub position_fen : Position → List ℕ
position_fen p = join_with_byte blank (fields_text p)

-- the text of a position is short
abbrev pub FenIsShort : Type 0
FenIsShort = (p : Position) → IsPosition p → length (position_fen p) ≤ 93

-- a position of normal chess
abbrev pub IsNormal : Position → Type 0
IsNormal p = IsPosition p × (p.rights.variant ≡ Normal)

-- The text written of a position of normal chess spells it.
abbrev pub FenReadsBack : Type 0
FenReadsBack = (p : Position) → IsNormal p → position_of (position_fen p) ≡ Ok p

-- A text spells no position but one of normal chess.
abbrev pub FenIsNormal : Type 0
FenIsNormal = (text : List ℕ) (p : Position) → position_of text ≡ Ok p → p.rights.variant ≡ Normal

-- The text written of a position spells it, if it is read by the position's variant.
abbrev pub FenReadsBackBy : Type 0
FenReadsBackBy = (p : Position) → IsPosition p → position_by p.rights.variant (position_fen p) ≡ Ok p

-- A text that is read by a variant spells no position but one of this variant.
abbrev pub FenIsOfVariant : Type 0
FenIsOfVariant =
    (variant : Variant) (text : List ℕ) (p : Position) → position_by variant text ≡ Ok p
    → p.rights.variant ≡ variant
