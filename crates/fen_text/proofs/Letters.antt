-- The rights that letters name.
use Rattle.std.proofs.Common.{◌≡◌, ℕ, suc, ◌+◌, ◌<◌, List, [], ◌∷◌, length, drop, get_or, Option, Some, None, refl, sym, ap, ◌∙◌, arith}
use Rattle.std.proofs.Math.Seq.{drop-cons}
use Rattle.chess_board.specs.declared.board.Side.{Side}
use Rattle.chess_board.specs.declared.board.Wing.{Wing}
use Rattle.chess_board.specs.Board.{Pieces}
use Rattle.fen_text.specs.RookFiles.{named_rook, one_of, and_named, right_in}

pub right_none : (pieces : Pieces) (side : Side) (wing : Wing) (field : List ℕ) → right_in pieces side wing None field ≡ None
right_none pieces side wing [] = refl
right_none pieces side wing (letter ∷ letters) = right_none pieces side wing letters

-- one letter more
right_first : (pieces : Pieces) (side : Side) (wing : Wing) (field : List ℕ) (i : ℕ) (right : Option (Option ℕ)) → i < length field → right_in pieces side wing right (drop i field) ≡ right_in pieces side wing (and_named pieces side wing right (get_or field i 0)) (drop (i + 1) field)
right_first pieces side wing field i right h =
    let n : i + 1 ≡ suc i = omega arith in
    rw (n, drop-cons field i 0) refl

-- once a letter names a right that is named already, there is none
pub right_lost : (pieces : Pieces) (side : Side) (wing : Wing) (field : List ℕ) (i : ℕ) (right named : Option ℕ) → i < length field → named ≡ named_rook pieces side wing (get_or field i 0) → one_of right named ≡ None → right_in pieces side wing (Some right) (drop i field) ≡ right_in pieces side wing (Some None) field → right_in pieces side wing (Some None) field ≡ None
right_lost pieces side wing field i right named h n e is =
    sym is ∙ right_first pieces side wing field i (Some right) h
    ∙ ap (λ (r : Option (Option ℕ)). right_in pieces side wing r (drop (i + 1) field)) (ap (one_of right) (sym n) ∙ e)
    ∙ right_none pieces side wing (drop (i + 1) field)
