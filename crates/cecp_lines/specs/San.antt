-- Texts of moves in standard algebraic notation, as they are written (PGN standard,
-- 8.2.3), whatever is on a board.
use Rattle.std.specs.Prelude.{ℕ, List, [], ◌∷◌, Bool, true, false, ◌&&◌}
use Rattle.std.specs.Prelude.{◌||◌, ◌==◌, nat_le, if◌then◌else◌, codes}
use Rattle.std.specs.List.{list_any}

abbrev pub is_between : ℕ → ℕ → ℕ → Bool
is_between low high b = nat_le low b && nat_le b high

-- The meaning of a byte of a form: f for a file, r for a rank, e for the first or the last rank, i
-- for another one, P for Q, R, B or N, and any other byte for itself.
abbrev pub fits : ℕ → ℕ → Bool
fits form b =
    if form == 102 then is_between 97 104 b
    else (if form == 114 then is_between 49 56 b
    else (if form == 101 then b == 49 || b == 56
    else (if form == 105 then is_between 50 55 b
    else (if form == 80 then (b == 81 || b == 82) || (b == 66 || b == 78)
    else form == b))))

-- nothing, or the sign of a check or of a mate
abbrev pub is_mark : List ℕ → Bool
is_mark [] = true
is_mark (b ∷ []) = b == 43 || b == 35
is_mark _ = false

-- a text of this form, perhaps followed by a sign
abbrev pub has_form : List ℕ → List ℕ → Bool
has_form [] text = is_mark text
has_form (form ∷ forms) [] = false
has_form (form ∷ forms) (b ∷ text) = fits form b && has_form forms text

-- castling; a pawn's move, with its file if it captures, and with a promotion exactly
-- on its last rank; the king's move; and another piece's, with nothing, the file, the
-- rank or both to distinguish it
abbrev pub forms : List (List ℕ)
forms =
    codes "O-O" ∷ codes "O-O-O"
    ∷ codes "fi" ∷ codes "fxfi" ∷ codes "fe=P" ∷ codes "fxfe=P"
    ∷ codes "Kfr" ∷ codes "Kxfr"
    ∷ codes "Pfr" ∷ codes "Pffr" ∷ codes "Prfr" ∷ codes "Pfrfr"
    ∷ codes "Pxfr" ∷ codes "Pfxfr" ∷ codes "Prxfr" ∷ codes "Pfrxfr" ∷ []

-- the text has one of the forms in which moves are written
unfoldable pub is_san : List ℕ → Bool
is_san text = list_any (λ form. has_form form text) forms
