-- The castling field of a Chess960 text: rights by their wings' letters (X-FEN) or by their rooks' files
-- (Shredder-FEN).
use Rattle.std.specs.Prelude.{ℕ, ◌+◌, zero, suc, Bool, ◌&&◌, ◌||◌, ◌==◌, not, nat_le}
use Rattle.std.specs.Prelude.{if◌then◌else◌, List, [], ◌∷◌, count_by, Option, Some, None}
use Rattle.std.specs.List.{list_all}
use Rattle.std.specs.Option.{option_and_then}
use Rattle.chess_board.specs.declared.board.Side.{Side}
use Rattle.chess_board.specs.declared.board.Side.TheVariants.{White, Black}
use Rattle.chess_board.specs.declared.board.Rights.{Rights}
use Rattle.chess_board.specs.declared.board.Variant.TheVariants.{Fischer}
use Rattle.chess_board.specs.declared.board.Wing.{Wing}
use Rattle.chess_board.specs.declared.board.Wing.TheVariants.{HSide, ASide}
use Rattle.chess_board.specs.Board.{Occupant, Pieces, piece_at, square_at, each_below, is_king, is_rook}
use Rattle.chess_board.specs.Rules.{first_rank, is_beyond}
use Rattle.protocol_tokens.specs.Bytes.{dash}

-- what stands on a file of a side's first rank
abbrev pub on_first_rank : Pieces → Side → ℕ → Occupant
on_first_rank pieces side file = piece_at pieces (square_at file (first_rank side))

abbrev pub has_king : Pieces → Side → ℕ → Bool
has_king pieces side file = is_king side (on_first_rank pieces side file)

abbrev pub has_rook : Pieces → Side → ℕ → Bool
has_rook pieces side file = is_rook side (on_first_rank pieces side file)

-- the last number below a bound that passes a test
abbrev pub last_below : ℕ → (ℕ → Bool) → Option ℕ
last_below zero test = None
last_below (suc n) test = if test n then Some n else last_below n test

abbrev pub is_no_other_king : Pieces → Side → ℕ → ℕ → Bool
is_no_other_king pieces side king file = (file == king) || not (has_king pieces side file)

-- true if a king of the side stands on this file of its first rank, and none on another
unfoldable pub is_only_king : Pieces → Side → ℕ → Bool
is_only_king pieces side king =
    has_king pieces side king && each_below 8 (is_no_other_king pieces side king)

-- the file of the side's one king on its first rank
unfoldable pub king_file : Pieces → Side → Option ℕ
king_file pieces side = last_below 8 (is_only_king pieces side)

-- the letter of a rook's file
abbrev pub file_letter : Side → ℕ → ℕ
file_letter White file = 65 + file
file_letter Black file = 97 + file

-- the letter of a wing: K, Q, k or q
abbrev pub wing_letter : Side → Wing → ℕ
wing_letter White HSide = 75
wing_letter White ASide = 81
wing_letter Black HSide = 107
wing_letter Black ASide = 113

abbrev pub is_no_rook_beyond : Pieces → Side → Wing → ℕ → ℕ → Bool
is_no_rook_beyond pieces side wing rook file = not (is_beyond wing rook file && has_rook pieces side file)

-- true if no rook of the side stands beyond a file of its first rank
unfoldable pub is_outermost : Pieces → Side → Wing → ℕ → Bool
is_outermost pieces side wing rook = each_below 8 (is_no_rook_beyond pieces side wing rook)

-- true if a letter names the right to castle with the rook of a file, which stands beyond the king: the
-- letter of the file, or that of the wing if no other rook stands farther out
unfoldable pub names_rook : Pieces → Side → Wing → ℕ → ℕ → ℕ → Bool
names_rook pieces side wing letter king rook =
    (has_rook pieces side rook && is_beyond wing king rook)
    && ((letter == file_letter side rook)
    || ((letter == wing_letter side wing) && is_outermost pieces side wing rook))

unfoldable pub rook_beyond : Pieces → Side → Wing → ℕ → ℕ → Option ℕ
rook_beyond pieces side wing letter king = last_below 8 (names_rook pieces side wing letter king)

-- the file of the rook whose right on a wing a letter names
abbrev pub named_rook : Pieces → Side → Wing → ℕ → Option ℕ
named_rook pieces side wing letter = option_and_then (rook_beyond pieces side wing letter) (king_file pieces side)

-- a right and one more: two are too many
abbrev pub one_of : Option ℕ → Option ℕ → Option (Option ℕ)
one_of None right = Some right
one_of (Some rook) None = Some (Some rook)
one_of (Some rook) (Some other) = None

abbrev pub and_named : Pieces → Side → Wing → Option (Option ℕ) → ℕ → Option (Option ℕ)
and_named pieces side wing None letter = None
and_named pieces side wing (Some right) letter = one_of right (named_rook pieces side wing letter)

-- the right that the letters name on a wing
abbrev pub right_in : Pieces → Side → Wing → Option (Option ℕ) → List ℕ → Option (Option ℕ)
right_in pieces side wing right [] = right
right_in pieces side wing right (letter ∷ letters) =
    right_in pieces side wing (and_named pieces side wing right letter) letters

-- K, Q, A to H, and the same small
abbrev pub is_castling_letter : ℕ → Bool
is_castling_letter letter =
    ((letter == 75 || letter == 81) || (letter == 107 || letter == 113))
    || ((nat_le 65 letter && nat_le letter 72) || (nat_le 97 letter && nat_le letter 104))

abbrev pub is_there_once : List ℕ → ℕ → Bool
is_there_once field letter = count_by (λ b. b == letter) field == 1

abbrev pub are_different : List ℕ → Bool
are_different field = list_all (is_there_once field) field

-- such letters, each at most once
abbrev pub are_castling_letters : List ℕ → Bool
are_castling_letters field = list_all is_castling_letter field && are_different field

abbrev pub fischer_rights : Option (Option ℕ) → Option (Option ℕ) → Option (Option ℕ)
    → Option (Option ℕ) → Option Rights
fischer_rights (Some wk) (Some wq) (Some bk) (Some bq) =
    Some (record { variant = Fischer; wk = wk; wq = wq; bk = bk; bq = bq })
fischer_rights _ _ _ _ = None

abbrev pub no_fischer_rights : Rights
no_fischer_rights = record { variant = Fischer; wk = None; wq = None; bk = None; bq = None }

abbrev pub fischer_letters_of : Pieces → List ℕ → Option Rights
fischer_letters_of pieces field =
    if are_castling_letters field
    then fischer_rights (right_in pieces White HSide (Some None) field)
    (right_in pieces White ASide (Some None) field) (right_in pieces Black HSide (Some None) field)
    (right_in pieces Black ASide (Some None) field)
    else None

-- a dash, or letters of which no two name one right
abbrev pub fischer_rights_of : Pieces → List ℕ → Option Rights
fischer_rights_of pieces [] = None
fischer_rights_of pieces (byte ∷ []) =
    if byte == dash then Some no_fischer_rights else fischer_letters_of pieces (byte ∷ [])
fischer_rights_of pieces (byte ∷ next ∷ bytes) = fischer_letters_of pieces (byte ∷ next ∷ bytes)
