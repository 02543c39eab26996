-- The move that a text spells, as a function of the text.
use Rattle.std.specs.Prelude.{◌≡◌, ℕ, ◌+◌, ◌-◌, ◌*◌, Bool, true, false, nat_lt, nat_le}
use Rattle.std.specs.Prelude.{◌&&◌, if◌then◌else◌, List, [], ◌∷◌, Option, Some, None, refl}
use Rattle.std.proofs.lemmas.Bool.{ltb-true}
use Rattle.chess_board.specs.declared.board.Square.{Square}
use Rattle.chess_board.specs.declared.board.Move.{Move}
use Rattle.chess_board.specs.declared.board.Kind.{Kind}
use Rattle.chess_board.specs.Text.{promotion_of, letter_a, letter_h, digit_one, digit_eight}

-- the square of a number, if it is on the board
abbrev pub square_if : (n : ℕ) (within : Bool) → nat_lt n 64 ≡ within → Option Square
square_if n true e = Some (record { index = n; on_board = ltb-true n 64 e })
square_if n false e = None

-- the square that a letter and a digit name
abbrev pub square_named : ℕ → ℕ → Option Square
square_named file rank =
    if nat_le letter_a file && nat_le file letter_h && nat_le digit_one rank
    && nat_le rank digit_eight
    then square_if ((rank - digit_one) * 8 + (file - letter_a))
    (nat_lt ((rank - digit_one) * 8 + (file - letter_a)) 64) refl
    else None

abbrev pub move_from : Option Square → Option Square → Option Kind → Option Move
move_from (Some from) (Some to) promotion =
    Some (record { from = from; to = to; promotion = promotion })
move_from None to promotion = None
move_from (Some from) None promotion = None

abbrev pub move_with_promotion : Option Square → Option Square → Option Kind → Option Move
move_with_promotion from to None = None
move_with_promotion from to (Some piece) = move_from from to (Some piece)

-- the move that a text spells
unfoldable pub move_spelled_by : List ℕ → Option Move
move_spelled_by (f ∷ r ∷ g ∷ s ∷ []) = move_from (square_named f r) (square_named g s) None
move_spelled_by (f ∷ r ∷ g ∷ s ∷ letter ∷ []) =
    move_with_promotion (square_named f r) (square_named g s) (promotion_of letter)
move_spelled_by _ = None
