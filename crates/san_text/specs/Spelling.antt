-- The reading of a text in standard algebraic notation, whatever is on the board.
use Rattle.std.specs.Prelude.{ℕ, ◌+◌, ◌*◌, ◌-◌, List, [], ◌∷◌, Bool, true, false, ◌&&◌}
use Rattle.std.specs.Prelude.{◌||◌, if◌then◌else◌, ◌==◌, nat_le, Option, Some, None, codes}
use Rattle.std.specs.List.{list_all}
use Rattle.std.specs.Str.{bytes_eq}
use Rattle.chess_board.specs.declared.board.Kind.{Kind}
use Rattle.chess_board.specs.declared.board.Kind.TheVariants.{Pawn, Knight, Bishop}
use Rattle.chess_board.specs.declared.board.Kind.TheVariants.{Rook, Queen, King}
use Rattle.chess_board.specs.Board.{square_at}
use Rattle.chess_board.specs.Text.{letter_a, letter_h, digit_one, digit_eight}
use Rattle.san_text.specs.declared.spelling.SanSpelling as code
use Rattle.san_text.specs.declared.spelling.SanSpelling.TheVariants as spellings
use Rattle.san_text.specs.declared.spelling.Target as arrival

-- the square reached, and what a pawn becomes there
pub record Target : Type 0 where
  pub to : ℕ
  pub promotion : Option Kind

-- the meaning of a text: castling, or a piece's kind, its file and rank if they are
-- given, and the square reached
pub data SanSpelling : Type 0 where
  Short : SanSpelling
  Long : SanSpelling
  Goes : (kind : Kind) (file rank : Option ℕ) (target : Target) → SanSpelling

abbrev pub promotion_sign : ℕ
promotion_sign = 61

abbrev pub capture_sign : ℕ
capture_sign = 120

abbrev pub is_check_byte : ℕ → Bool
is_check_byte b = (b == 43 || b == 35) || (b == 33 || b == 63)

-- without the signs `+`, `#`, `!` and `?` at the end
abbrev pub unmarked : List ℕ → List ℕ
unmarked [] = []
unmarked (b ∷ bs) = if list_all is_check_byte (b ∷ bs) then [] else b ∷ unmarked bs

abbrev pub file_named : ℕ → Option ℕ
file_named b = if nat_le letter_a b && nat_le b letter_h then Some (b - letter_a) else None

abbrev pub rank_named : ℕ → Option ℕ
rank_named b = if nat_le digit_one b && nat_le b digit_eight then Some (b - digit_one) else None

-- the piece that a capital letter names
abbrev pub kind_named : ℕ → Option Kind
kind_named b =
    if b == 75 then Some King
    else (if b == 81 then Some Queen
    else (if b == 82 then Some Rook
    else (if b == 66 then Some Bishop
    else (if b == 78 then Some Knight else None))))

-- one that a pawn may become
abbrev pub promoted : Option Kind → Option (Option Kind)
promoted (Some Queen) = Some (Some Queen)
promoted (Some Rook) = Some (Some Rook)
promoted (Some Bishop) = Some (Some Bishop)
promoted (Some Knight) = Some (Some Knight)
promoted _ = None

-- nothing, or a letter, with or without `=` before it
abbrev pub promotion_read : List ℕ → Option (Option Kind)
promotion_read [] = Some None
promotion_read (b ∷ []) = promoted (kind_named b)
promotion_read (sign ∷ b ∷ []) = if sign == promotion_sign then promoted (kind_named b) else None
promotion_read _ = None

abbrev pub target_of : Option ℕ → Option ℕ → Option (Option Kind) → Option Target
target_of (Some file) (Some rank) (Some promotion) =
    Some (record { to = square_at file rank; promotion = promotion })
target_of None rank promotion = None
target_of (Some file) None promotion = None
target_of (Some file) (Some rank) None = None

-- a square, and perhaps a promotion
abbrev pub square_read : List ℕ → Option Target
square_read (f ∷ r ∷ rest) = target_of (file_named f) (rank_named r) (promotion_read rest)
square_read _ = None

-- the same after an optional `x`
abbrev pub target_read : List ℕ → Option Target
target_read [] = None
target_read (b ∷ bs) = if b == capture_sign then square_read bs else square_read (b ∷ bs)

abbrev pub goes : Kind → Option ℕ → Option ℕ → Option Target → Option SanSpelling
goes occupant file rank None = None
goes occupant file rank (Some target) = Some (Goes occupant file rank target)

-- the first reading, else the second
abbrev pub first_of : Option SanSpelling → Option SanSpelling → Option SanSpelling
first_of (Some s) other = Some s
first_of None other = other

-- a rank that is given, and the target after it
abbrev pub rank_read : Kind → Option ℕ → List ℕ → Option SanSpelling
rank_read occupant file [] = None
rank_read occupant file (r ∷ rest) = given (rank_named r) where
  given : Option ℕ → Option SanSpelling
  given None = None
  given (Some rank) = goes occupant file (Some rank) (target_read rest)

-- a file that is given, and perhaps a rank, and the target after them
abbrev pub file_read : Kind → List ℕ → Option SanSpelling
file_read occupant [] = None
file_read occupant (f ∷ rest) = given (file_named f) where
  given : Option ℕ → Option SanSpelling
  given None = None
  given (Some file) =
      first_of (goes occupant (Some file) None (target_read rest)) (rank_read occupant (Some file) rest)

-- the target alone, or after a file, a rank, or both
abbrev pub places_read : Kind → List ℕ → Option SanSpelling
places_read occupant text =
    first_of (goes occupant None None (target_read text))
    (first_of (file_read occupant text) (rank_read occupant None text))

-- an officer after its letter, or a pawn
abbrev pub piece_read : List ℕ → Option SanSpelling
piece_read [] = None
piece_read (b ∷ bs) = named (kind_named b) where
  named : Option Kind → Option SanSpelling
  named (Some kind) = places_read kind bs
  named None = places_read Pawn (b ∷ bs)

abbrev pub is_short : List ℕ → Bool
is_short text = bytes_eq text (codes "O-O") || bytes_eq text (codes "0-0")

abbrev pub is_long_castling : List ℕ → Bool
is_long_castling text = bytes_eq text (codes "O-O-O") || bytes_eq text (codes "0-0-0")

abbrev pub read_unmarked : List ℕ → Option SanSpelling
read_unmarked text =
    if is_short text then Some Short else (if is_long_castling text then Some Long else piece_read text)

-- the moves that the text spells
abbrev pub spelling_of_san : List ℕ → Option SanSpelling
spelling_of_san text = read_unmarked (unmarked text)

abbrev pub plain_target : arrival.Target → Target
plain_target t = record { to = t.to.index; promotion = t.promotion }

abbrev pub plain_spelling : code.SanSpelling → SanSpelling
plain_spelling spellings.Short = Short
plain_spelling spellings.Long = Long
plain_spelling (spellings.Goes kind file rank target) = Goes kind file rank (plain_target target)

abbrev pub plain_targets : Option arrival.Target → Option Target
plain_targets None = None
plain_targets (Some t) = Some (plain_target t)

abbrev pub plains : Option code.SanSpelling → Option SanSpelling
plains None = None
plains (Some s) = Some (plain_spelling s)
