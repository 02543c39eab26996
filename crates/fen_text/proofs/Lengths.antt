-- The greatest length of a written text.
use Rattle.std.proofs.Common.{◌≡◌, ℕ, suc, zero, ◌*◌, ◌≤◌, List, [], ◌∷◌, ◌++◌, Bool, true, false, ◌||◌, cond, length, drop, decimal, Option, Some, None, is_some, arith, length-append, lit<}
use Rattle.std.proofs.lemmas.Fmt.{length-decimal-le}
use Rattle.std.proofs.lemmas.List.{length-take}
use Rattle.chess_board.specs.declared.board.Side.{Side}
use Rattle.chess_board.specs.declared.board.Side.TheVariants.{White, Black}
use Rattle.chess_board.specs.declared.board.Rights.{Rights}
use Rattle.chess_board.specs.declared.board.Variant.{Variant}
use Rattle.chess_board.specs.declared.board.Variant.TheVariants.{Normal, Fischer}
use Rattle.chess_board.specs.Board.{Pieces}
use Rattle.fen_text.specs.Written.{rank_text, rank_row, lower_ranks, board_text, top_rank, side_text, right_text, rights_text, en_passant_text, position_fen, FenIsShort}
use Rattle.fen_text.proofs.Rows.{length-rank_text}

length-rank : (pieces : Pieces) (rank : ℕ) → length (rank_text 0 (rank_row pieces rank)) ≤ 8
length-rank pieces rank =
    let text = length-rank_text 0 (rank_row pieces rank) in
    let squares = length-take 8 (drop (8 * rank) pieces) in
    omega arith

length-lower : (pieces : Pieces) (n : ℕ) → length (lower_ranks pieces n) ≤ 9 * n
length-lower pieces zero = omega arith
length-lower pieces (suc n) =
    let text = length-rank pieces n in
    let lower = length-lower pieces n in
    let both = length-append (rank_text 0 (rank_row pieces n)) (lower_ranks pieces n) in
    omega arith

length-board : (pieces : Pieces) → length (board_text pieces) ≤ 71
unfolding board_text top_rank
length-board pieces =
    let text = length-rank pieces 7 in
    let lower = length-lower pieces 7 in
    let both = length-append (rank_text 0 (rank_row pieces 7)) (lower_ranks pieces 7) in
    omega arith

length-side : (side : Side) → length (side_text side) ≡ 1
length-side White = omega arith
length-side Black = omega arith

length-right : (variant : Variant) (wing a : ℕ) (right : Option ℕ) → length (right_text variant wing a right) ≤ 1
length-right variant wing a None = omega arith
length-right Normal wing a (Some file) = omega arith
length-right Fischer wing a (Some file) = omega arith

length-rights : (rights : Rights) → length (rights_text rights) ≤ 4
length-rights rights = go ((is_some rights.wk || is_some rights.wq) || (is_some rights.bk || is_some rights.bq))
  where
    letters : List ℕ
    letters = right_text rights.variant 75 65 rights.wk ++ (right_text rights.variant 81 65 rights.wq ++ (right_text rights.variant 107 97 rights.bk ++ right_text rights.variant 113 97 rights.bq))

    few : length letters ≤ 4
    few =
        let wk = length-right rights.variant 75 65 rights.wk in
        let wq = length-right rights.variant 81 65 rights.wq in
        let bk = length-right rights.variant 107 97 rights.bk in
        let bq = length-right rights.variant 113 97 rights.bq in
        simp length-append (omega arith)

    go : (some : Bool) → length (cond some letters (45 ∷ [])) ≤ 4
    go true = few
    go false = omega arith

length-passant : (passant : Option ℕ) → length (en_passant_text passant) ≤ 2
length-passant None = omega arith
length-passant (Some at) = omega arith

length-count : (n : ℕ) → n ≤ 99999 → length (decimal n) ≤ 5
length-count n h = length-decimal-le 5 n (lit< tt) (omega arith) (omega arith)

pub length-written : FenIsShort
unfolding position_fen
length-written p q =
    let b = length-board p.pieces in
    let s = length-side p.side in
    let r = length-rights p.rights in
    let e = length-passant p.passant in
    let h = length-count p.half q.half in
    let f = length-count p.full q.full.1 in
    simp length-append (omega arith)
