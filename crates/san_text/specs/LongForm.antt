-- Moves in long algebraic form, and how they are read: `Nb1-c3`, `e4xd5`, `e7-e8=Q+`.
use Rattle.std.specs.Prelude.{◌≡◌, ◌⊎◌, ℕ, List, [], ◌∷◌, ◌++◌, Bool, ◌&&◌, ◌||◌}
use Rattle.std.specs.Prelude.{if◌then◌else◌, ◌==◌, Option, Some, None, IsTrue}
use Rattle.chess_board.specs.declared.board.Kind.{Kind}
use Rattle.chess_board.specs.declared.board.Kind.TheVariants.{Pawn}
use Rattle.chess_board.specs.declared.board.Move.{Move}
use Rattle.chess_board.specs.Board.{square_at}
use Rattle.chess_board.specs.Position.{Position}
use Rattle.chess_board.specs.Rules.{is_legal}
use Rattle.chess_board.specs.Laws.{IsLegal}
use Rattle.san_text.specs.Spelling.{Target, capture_sign, unmarked, file_named}
use Rattle.san_text.specs.Spelling.{rank_named, kind_named, square_read}
use Rattle.san_text.specs.Writing.{same_san_kind, kind_at, letter, file_letter}
use Rattle.san_text.specs.Writing.{rank_digit, promotion_letters}

abbrev pub dash : ℕ
dash = 45

-- `-` or `x`
abbrev pub is_link : ℕ → Bool
is_link b = b == dash || b == capture_sign

abbrev pub square_text : ℕ → List ℕ
square_text s = file_letter s ∷ rank_digit s ∷ []

-- a promotion without `=`
abbrev pub bare_promotion : Option Kind → List ℕ
bare_promotion None = []
bare_promotion (Some kind) = letter kind

-- The long form of a move: the letter of the piece on the square that it leaves (a pawn has
-- none), this square, `-` or `x`, the square reached, and the letter of what a pawn becomes,
-- with or without `=` before it.
pub record IsLongForm (p : Position) (m : Move) (text : List ℕ) : Type 0 where
  pub link : ℕ
  pub becomes : List ℕ
  pub linked : IsTrue (is_link link)
  pub promotes : (becomes ≡ bare_promotion m.promotion) ⊎ (becomes ≡ promotion_letters m.promotion)
  pub whole : text
      ≡ letter (kind_at p m.from.index)
      ++ (square_text m.from.index ++ (link ∷ (square_text m.to.index ++ becomes)))

-- a legal move whose long form is the text without the signs at its end
abbrev pub FitsLong : Position → List ℕ → Move → Type 0
FitsLong p text m = IsLegal p m.from.index m.to.index m.promotion × IsLongForm p m (unmarked text)

-- the reading of a text: the one legal move that fits, or none if none does
abbrev pub IsLongRead : Position → List ℕ → Option Move → Type 0
IsLongRead p text None = (m : Move) → FitsLong p text m → ⊥
IsLongRead p text (Some m) = FitsLong p text m × ((n : Move) → FitsLong p text n → n ≡ m)

-- HOW IT IS READ

-- a move by the numbers of its squares
pub record Way : Type 0 where
  pub from : ℕ
  pub target : Target

abbrev pub way_of : Move → Way
way_of m = record {
  from = m.from.index;
  target = record { to = m.to.index; promotion = m.promotion };
}

abbrev pub way_from : Option ℕ → Option ℕ → Option Target → Option Way
way_from (Some file) (Some rank) (Some target) =
    Some (record { from = square_at file rank; target = target })
way_from None rank target = None
way_from (Some file) None target = None
way_from (Some file) (Some rank) None = None

-- the square that is left, `-` or `x`, the square reached, and what a pawn becomes
abbrev pub way_read : List ℕ → Option Way
way_read (f ∷ r ∷ link ∷ rest) =
    if is_link link then way_from (file_named f) (rank_named r) (square_read rest) else None
way_read _ = None

-- true if a piece of such a kind may legally go so
abbrev pub may_move : Position → Kind → Way → Bool
may_move p occupant way =
    same_san_kind (kind_at p way.from) occupant && is_legal p way.from way.target.to way.target.promotion

abbrev pub moved_by : Position → Kind → Option Way → Option Way
moved_by p occupant None = None
moved_by p occupant (Some way) = if may_move p occupant way then Some way else None

-- a piece by its letter, or a pawn
abbrev pub piece_moved : Position → Option Kind → ℕ → List ℕ → Option Way
piece_moved p (Some occupant) b bs = moved_by p occupant (way_read bs)
piece_moved p None b bs = moved_by p Pawn (way_read (b ∷ bs))

abbrev pub long_read : Position → List ℕ → Option Way
long_read p [] = None
long_read p (b ∷ bs) = piece_moved p (kind_named b) b bs
