-- The forms of moves in standard algebraic notation, by what moves.
use Rattle.std.specs.Prelude.{ℕ, List, Bool, ◌||◌, codes}
use Rattle.cecp_lines.specs.San.{has_form}

abbrev pub is_castling : List ℕ → Bool
is_castling t = has_form (codes "O-O") t || has_form (codes "O-O-O") t

abbrev pub is_pawn_move : List ℕ → Bool
is_pawn_move t =
    (has_form (codes "fi") t || has_form (codes "fxfi") t)
    || (has_form (codes "fe=P") t || has_form (codes "fxfe=P") t)

abbrev pub is_king_move : List ℕ → Bool
is_king_move t = has_form (codes "Kfr") t || has_form (codes "Kxfr") t

-- of a queen, a rook, a bishop or a knight
abbrev pub is_quiet_move : List ℕ → Bool
is_quiet_move t =
    (has_form (codes "Pfr") t || has_form (codes "Pffr") t)
    || (has_form (codes "Prfr") t || has_form (codes "Pfrfr") t)

abbrev pub is_capture : List ℕ → Bool
is_capture t =
    (has_form (codes "Pxfr") t || has_form (codes "Pfxfr") t)
    || (has_form (codes "Prxfr") t || has_form (codes "Pfrxfr") t)

abbrev pub is_any_move : List ℕ → Bool
is_any_move t =
    (is_castling t || is_pawn_move t) || (is_king_move t || (is_quiet_move t || is_capture t))
