-- The other fields of a position text.
use Rattle.std.specs.Prelude.{ℕ, ◌-◌, Bool, true, false, ◌&&◌, ◌||◌, ◌==◌, nat_le, if◌then◌else◌}
use Rattle.std.specs.Prelude.{List, [], ◌∷◌, count_by, Option, Some, None}
use Rattle.std.specs.List.{list_all}
use Rattle.chess_board.specs.declared.board.Side.{Side}
use Rattle.chess_board.specs.declared.board.Side.TheVariants.{White, Black}
use Rattle.chess_board.specs.declared.board.Rights.{Rights}
use Rattle.chess_board.specs.declared.board.Variant.TheVariants.{Normal}
use Rattle.chess_board.specs.Board.{square_at}
use Rattle.protocol_tokens.specs.Numbers.{digits}
use Rattle.protocol_tokens.specs.Bytes.{dash}
use Rattle.chess_board.specs.Text.{letter_a, letter_h, digit_one}

-- w, b
abbrev pub side_of : List ℕ → Option Side
side_of (letter ∷ []) =
    if letter == 119 then Some White else (if letter == 98 then Some Black else None)
side_of _ = None

-- a letter of KQkq
abbrev pub is_right : ℕ → Bool
is_right letter = (letter == 75 || letter == 81) || (letter == 107 || letter == 113)

-- whether the letter is there; twice is too often
abbrev pub at_most_once : ℕ → List ℕ → Option Bool
at_most_once letter field =
    if count_by (λ b. b == letter) field == 0 then Some false
    else (if count_by (λ b. b == letter) field == 1 then Some true else None)

-- the file of the rook whose right is held
abbrev pub file_if : Bool → ℕ → Option ℕ
file_if held file = if held then Some file else None

-- the rights of normal chess: the rooks are on the files h and a
abbrev pub all_four : Option Bool → Option Bool → Option Bool → Option Bool → Option Rights
all_four (Some wk) (Some wq) (Some bk) (Some bq) =
    Some (record { variant = Normal; wk = file_if wk 7; wq = file_if wq 0; bk = file_if bk 7; bq = file_if bq 0 })
all_four _ _ _ _ = None

abbrev pub no_rights : Rights
no_rights = record { variant = Normal; wk = None; wq = None; bk = None; bq = None }

-- letters of KQkq, each at most once, in any order
abbrev pub letters_of : List ℕ → Option Rights
letters_of field =
    if list_all is_right field
    then all_four (at_most_once 75 field) (at_most_once 81 field) (at_most_once 107 field)
    (at_most_once 113 field)
    else None

-- a dash, or such letters
abbrev pub rights_of : List ℕ → Option Rights
rights_of [] = None
rights_of (byte ∷ []) = if byte == dash then Some no_rights else letters_of (byte ∷ [])
rights_of (byte ∷ next ∷ bytes) = letters_of (byte ∷ next ∷ bytes)

abbrev pub digit_three : ℕ
digit_three = 51

abbrev pub digit_six : ℕ
digit_six = 54

-- a file from a to h, and rank 3 or 6
abbrev pub is_passed_square : ℕ → ℕ → Bool
is_passed_square file rank =
    (nat_le letter_a file && nat_le file letter_h) && (rank == digit_three || rank == digit_six)

-- a dash, or a square that a pawn may have passed
abbrev pub en_passant_of : List ℕ → Option (Option ℕ)
en_passant_of (byte ∷ []) = if byte == dash then Some None else None
en_passant_of (file ∷ rank ∷ []) =
    if is_passed_square file rank then Some (Some (square_at (file - letter_a) (rank - digit_one)))
    else None
en_passant_of _ = None

-- 1 to 5 digits
abbrev pub count_of : List ℕ → Option ℕ
count_of field = digits 5 field

-- a count that may be missing
abbrev pub count_or : ℕ → Option (List ℕ) → Option ℕ
count_or missing None = Some missing
count_or missing (Some field) = count_of field
