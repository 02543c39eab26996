-- Moves in standard algebraic notation, as they are written (FIDE Laws, appendix
-- C; PGN standard, 8.2.3).
use Rattle.std.specs.Prelude.{◌≡◌, ◌⊎◌, ℕ, ◌+◌, ◌≤◌, List, [], ◌∷◌, ◌++◌, length, Bool, true, ◌&&◌}
use Rattle.std.specs.Prelude.{◌||◌, ◌↔◌, not, if◌then◌else◌, ◌==◌, Option, Some, None, codes}
use Rattle.chess_board.specs.declared.board.Kind.{Kind}
use Rattle.chess_board.specs.declared.board.Kind.TheVariants.{Pawn, Knight, Bishop}
use Rattle.chess_board.specs.declared.board.Kind.TheVariants.{Rook, Queen, King}
use Rattle.chess_board.specs.declared.board.Move.{Move}
use Rattle.chess_board.specs.declared.board.Variant.{Variant}
use Rattle.chess_board.specs.declared.board.Variant.TheVariants.{Normal, Fischer}
use Rattle.chess_board.specs.declared.board.Wing.{Wing}
use Rattle.chess_board.specs.declared.board.Wing.TheVariants.{HSide, ASide}
use Rattle.chess_board.specs.contracts.board.KindPartialEq.TheImpl as kinds
use Rattle.san_text.specs.declared.pieces.RivalSquares.{RivalSquares}
use Rattle.san_text.specs.declared.pieces.RivalSquares.TheVariants.{Board, File, Rank}
use Rattle.chess_board.specs.Attack.{is_checked}
use Rattle.chess_board.specs.Board.{piece_at, file_of, rank_of_square, is_vacant, is_of_side}
use Rattle.chess_board.specs.Board.{is_king_kind, is_pawn_kind, some_square}
use Rattle.chess_board.specs.Place.{has_any_way}
use Rattle.chess_board.specs.Position.{Position}
use Rattle.chess_board.specs.Rules.{king_home, is_beyond, is_legal}
use Rattle.chess_board.specs.Laws.{IsLegal, IsChecked, Castles}
use Rattle.chess_board.specs.Lawful.{PositionInvariant}
use Rattle.chess_board.specs.Play.{kind_on, position_after, HasLegal}
use Rattle.chess_board.specs.Text.{letter_a, digit_one}

-- `==` of two kinds
abbrev pub same_san_kind : Kind → Kind → Bool
same_san_kind = (kinds.eq-value).it

abbrev pub kind_at : Position → ℕ → Kind
kind_at p s = kind_on (piece_at p.pieces s)

-- a king that goes so castles on the wing: in normal chess he goes two squares towards a rook, in Chess960
-- to the square of his rook, since no other move reaches a piece of its own side
abbrev pub castles_to : Position → Variant → Wing → ℕ → ℕ → Bool
castles_to p Normal HSide from to = (from == king_home p.side) && (to == king_home p.side + 2)
castles_to p Normal ASide from to = (from == king_home p.side) && (to + 2 == king_home p.side)
castles_to p Fischer wing from to =
    is_of_side p.side (piece_at p.pieces to) && is_beyond wing (file_of from) (file_of to)

abbrev pub castles_on : Position → Wing → Move → Bool
castles_on p wing m =
    is_king_kind (kind_at p m.from.index)
    && castles_to p p.rights.variant wing m.from.index m.to.index

-- castling on the h-side and on the a-side
abbrev pub castles_short : Position → Move → Bool
castles_short p m = castles_on p HSide m

abbrev pub castles_long : Position → Move → Bool
castles_long p m = castles_on p ASide m

-- a piece stands on the square reached, or a pawn leaves its file: also en passant
abbrev pub move_captures : Position → Move → Bool
move_captures p m =
    not (is_vacant (piece_at p.pieces m.to.index))
    || (is_pawn_kind (kind_at p m.from.index) && not (file_of m.from.index == file_of m.to.index))

-- another piece of the kind and side may legally go there, from this square
abbrev pub is_rival : Position → Move → ℕ → Bool
is_rival p m s =
    (not (s == m.from.index) && same_san_kind (kind_at p s) (kind_at p m.from.index))
    && is_legal p s m.to.index m.promotion

-- on the same file, on the same rank, or anywhere
abbrev pub is_within : RivalSquares → ℕ → ℕ → Bool
is_within Board a b = true
is_within File a b = file_of a == file_of b
is_within Rank a b = rank_of_square a == rank_of_square b

-- a piece of the kind and side that may legally go there stands on another square, on the board, or
-- on the piece's file or rank
abbrev pub has_rival : Position → Move → RivalSquares → Bool
has_rival p m within = some_square (λ s. is_within within s m.from.index && is_rival p m s)

abbrev pub file_letter : ℕ → ℕ
file_letter s = letter_a + file_of s

abbrev pub rank_digit : ℕ → ℕ
rank_digit s = digit_one + rank_of_square s

-- nothing, else the file, else the rank, else both: the first that
-- distinguishes the piece from the others
abbrev pub distinction : Position → Move → List ℕ
distinction p m =
    if not (has_rival p m Board) then []
    else (if not (has_rival p m File) then file_letter m.from.index ∷ []
    else (if not (has_rival p m Rank) then rank_digit m.from.index ∷ []
    else file_letter m.from.index ∷ rank_digit m.from.index ∷ []))

-- the letter of a piece: a pawn has none
abbrev pub letter : Kind → List ℕ
letter Pawn = []
letter Knight = codes "N"
letter Bishop = codes "B"
letter Rook = codes "R"
letter Queen = codes "Q"
letter King = codes "K"

-- where the piece comes from: a pawn's file if it captures, another piece's distinction
abbrev pub origin : Position → Move → List ℕ
origin p m =
    if is_pawn_kind (kind_at p m.from.index)
    then (if move_captures p m then file_letter m.from.index ∷ [] else [])
    else distinction p m

abbrev pub promotion_letters : Option Kind → List ℕ
promotion_letters None = []
promotion_letters (Some kind) = codes "=" ++ letter kind

abbrev pub target : Move → List ℕ
target m = file_letter m.to.index ∷ rank_digit m.to.index ∷ promotion_letters m.promotion

abbrev pub capture_text : Position → Move → List ℕ
capture_text p m = if move_captures p m then codes "x" else []

-- the text without a sign of check or mate
abbrev pub body : Position → Move → List ℕ
body p m =
    if castles_short p m then codes "O-O"
    else (if castles_long p m then codes "O-O-O"
    else letter (kind_at p m.from.index) ++ (origin p m ++ (capture_text p m ++ target m)))

abbrev pub position_after_move : Position → Move → Position
position_after_move p m = position_after p m.from.index m.to.index m.promotion

-- `#` if the side on move is mated, else `+` if it is in check, else nothing
abbrev pub IsCheckMark : Position → List ℕ → Type 0
IsCheckMark p mark =
    ((mark ≡ codes "#") × (IsChecked p.pieces p.side × (¬ HasLegal p)))
    ⊎ (((mark ≡ codes "+") × (IsChecked p.pieces p.side × HasLegal p))
    ⊎ ((mark ≡ []) × (¬ IsChecked p.pieces p.side)))

-- the text is the move, written
pub record IsSan (p : Position) (m : Move) (text : List ℕ) : Type 0 where
  pub mark : List ℕ
  pub fits : IsCheckMark (position_after_move p m) mark
  pub whole : text ≡ body p m ++ mark

-- the mark as a function: after a move that checks, `+` if the side on move
-- has a legal move, else `#`
abbrev pub sign : Position → List ℕ
sign p =
    if is_checked p.pieces p.side then (if has_any_way p then codes "+" else codes "#")
    else []

-- the text of a move
unfoldable pub san_of_move : Position → Move → List ℕ
san_of_move p m = body p m ++ sign (position_after_move p m)

-- it is the one text of the move by the standard
abbrev pub IsTheText : Type 0
IsTheText = (p : Position) (m : Move) (text : List ℕ) → IsSan p m text ↔ (text ≡ san_of_move p m)

-- No text of a legal move has more than seven bytes.
abbrev pub SanTextsAreShort : Type 0
SanTextsAreShort =
    (p : Position) (m : Move) → IsLegal p m.from.index m.to.index m.promotion → length (san_of_move p m) ≤ 7

-- the king castles on the wing
abbrev pub CastlesOn : Position → Wing → Move → Type 0
CastlesOn p wing m = (kind_at p m.from.index ≡ King) × Castles p wing m.from.index m.to.index

-- In each position the text of a legal move, without a sign, is `O-O` exactly if the king castles on the
-- h-side, and `O-O-O` exactly if he castles on the a-side.
abbrev pub CastlingsAreWritten : Type 0
CastlingsAreWritten =
    (p : Position) (m : Move) → PositionInvariant p → IsLegal p m.from.index m.to.index m.promotion
    → ((body p m ≡ codes "O-O") ↔ CastlesOn p HSide m) × ((body p m ≡ codes "O-O-O") ↔ CastlesOn p ASide m)
