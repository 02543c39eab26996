-- The board of a position text: eight ranks from the eighth down to the
-- first, with a slash between.
use Rattle.std.specs.Prelude.{ℕ, ◌<◌, ◌-◌, Bool, ◌&&◌, ◌==◌, nat_le, nat_lt, if◌then◌else◌}
use Rattle.std.specs.Prelude.{List, [], ◌∷◌, ◌++◌, length, replicate, Option, Some, None}
use Rattle.std.specs.Option.{option_map}
use Rattle.std.specs.List.{slice_split}
use Rattle.chess_board.specs.declared.board.Side.{Side}
use Rattle.chess_board.specs.declared.board.Side.TheVariants.{White, Black}
use Rattle.chess_board.specs.declared.board.Kind.{Kind}
use Rattle.chess_board.specs.declared.board.Kind.TheVariants.{Pawn, Knight, Bishop}
use Rattle.chess_board.specs.declared.board.Kind.TheVariants.{Rook, Queen, King}
use Rattle.chess_board.specs.Board.{Pieces}
use Rattle.chess_board.specs.Play.{fits_board}
use Rattle.chess_board.specs.Text.{letter_a, digit_one, digit_eight}
use Rattle.protocol_tokens.specs.Bytes.{digit_zero, slash}

-- the kind that a capital letter of PNBRQK names
abbrev pub kind_of_letter : ℕ → Option Kind
kind_of_letter letter =
    if letter == 80 then Some Pawn
    else (if letter == 78 then Some Knight
    else (if letter == 66 then Some Bishop
    else (if letter == 82 then Some Rook
    else (if letter == 81 then Some Queen
    else (if letter == 75 then Some King else None)))))

-- how far a small letter is from its capital one
abbrev pub case_step : ℕ
case_step = 32

-- White's pieces have capital letters, and Black's the small ones.
abbrev pub piece_of_letter : ℕ → Option (Side × Kind)
piece_of_letter letter =
    if nat_lt letter letter_a then option_map (λ kind. (White, kind)) (kind_of_letter letter)
    else option_map (λ kind. (Black, kind)) (kind_of_letter (letter - case_step))

-- what a byte of a rank stands for: a digit for one to eight empty squares, a letter for a piece
abbrev pub squares_of : ℕ → Option Pieces
squares_of byte =
    if nat_le digit_one byte && nat_le byte digit_eight
    then Some (replicate (byte - digit_zero) None)
    else option_map (λ occupant. Some occupant ∷ []) (piece_of_letter byte)

-- one after the other, if both are there
abbrev pub pieces_if_both : Option Pieces → Option Pieces → Option Pieces
pieces_if_both None after = None
pieces_if_both (Some squares) None = None
pieces_if_both (Some squares) (Some after) = Some (squares ++ after)

-- what the bytes of a rank stand for, from the file a on
abbrev pub squares_in : List ℕ → Option Pieces
squares_in [] = Some []
squares_in (byte ∷ bytes) = pieces_if_both (squares_of byte) (squares_in bytes)

-- only if there are as many
abbrev pub exactly : ℕ → Option Pieces → Option Pieces
exactly count None = None
exactly count (Some squares) = if length squares == count then Some squares else None

-- spelled wrongly, or more squares than that
abbrev pub HasMoreThan : ℕ → Option Pieces → Type 0
HasMoreThan count None = Unit {0}
HasMoreThan count (Some squares) = count < length squares

-- a rank has eight squares
abbrev pub rank_in_text : List ℕ → Option Pieces
rank_in_text bytes = exactly 8 (squares_in bytes)

-- the pieces on these ranks, of which the text has the upper one first, and the board the lower one
abbrev pub pieces_on_ranks : List (List ℕ) → Option Pieces
pieces_on_ranks [] = Some []
pieces_on_ranks (upper ∷ lower) = pieces_if_both (pieces_on_ranks lower) (rank_in_text upper)

abbrev pub is_slash : ℕ → Bool
is_slash byte = byte == slash

abbrev pub ranks_in : List ℕ → List (List ℕ)
ranks_in field = slice_split is_slash field

-- what is where, by eight ranks
abbrev pub pieces_in_field : List ℕ → Option Pieces
pieces_in_field field = if length (ranks_in field) == 8 then pieces_on_ranks (ranks_in field) else None

-- only if at most 16 pieces a side stand there, and no pawn on the first or last rank
abbrev pub pieces_if_fitting : Option Pieces → Option Pieces
pieces_if_fitting None = None
pieces_if_fitting (Some pieces) = if fits_board pieces then Some pieces else None

abbrev pub board_in_field : List ℕ → Option Pieces
board_in_field field = pieces_if_fitting (pieces_in_field field)
