-- The text of a rank, and how long it may be.
use Rattle.std.proofs.Common.{◌≡◌, ℕ, suc, zero, ◌+◌, ◌*◌, ◌<◌, ◌≤◌, [], ◌∷◌, length, drop, get_or, Some, None, ap, ◌∙◌, arith, length-append}
use Rattle.std.proofs.lemmas.List.{length-take, length-drop, drop_more, get_or-take, get_or-drop}
use Rattle.std.proofs.lemmas.Bool.Decides.{nat_tests}
use Rattle.chess_board.specs.Board.{Occupant, Pieces, piece_at}
use Rattle.fen_text.specs.Written.{empty_run, rank_text, rank_row}

pub length-run : (empty : ℕ) → length (empty_run empty) ≤ empty
length-run zero = grind (arith, nat_tests)
length-run (suc n) = grind (arith, nat_tests)

-- at most one byte for each square
pub length-rank_text : (empty : ℕ) (squares : Pieces) → length (rank_text empty squares) ≤ empty + length squares
length-rank_text empty [] = let e = length-run empty in omega arith
length-rank_text empty (None ∷ squares) = let e = length-rank_text (suc empty) squares in omega arith
length-rank_text empty (Some occupant ∷ squares) =
    let e = length-rank_text 0 squares in
    let r = length-run empty in
    rw length-append (omega arith)

pub length-row : (pieces : Pieces) (rank : ℕ) → length pieces ≡ 64 → rank < 8 → length (rank_row pieces rank) ≡ 8
length-row pieces rank whole low = rw (length-take, length-drop, whole) (omega arith)

pub row_first : (pieces : Pieces) (rank file : ℕ) → length pieces ≡ 64 → rank < 8 → file < 8 → drop file (rank_row pieces rank) ≡ piece_at pieces (rank * 8 + file) ∷ drop (file + 1) (rank_row pieces rank)
row_first pieces rank file whole low inside =
    let l : file < length (rank_row pieces rank) = rw (length-row pieces rank whole low) inside in
    let n : 8 * rank + file ≡ rank * 8 + file = omega arith in
    let at : get_or (rank_row pieces rank) file None ≡ piece_at pieces (rank * 8 + file) =
    get_or-take 8 (drop (8 * rank) pieces) file None inside ∙ get_or-drop (8 * rank) pieces file None ∙ ap (λ k. get_or pieces k None) n in
    drop_more (rank_row pieces rank) file None l ∙ ap (λ (occupant : Occupant). occupant ∷ drop (file + 1) (rank_row pieces rank)) at
