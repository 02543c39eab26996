-- The text of a board is read as these pieces.
use Rattle.std.proofs.Common.{◌≡◌, ℕ, suc, zero, ◌+◌, ◌-◌, ◌*◌, ◌<◌, ◌≤◌, List, [], ◌∷◌, ◌++◌, true, false, cond, ltb, leb, length, take, replicate, Option, Some, None, refl, sym, ap, ◌∙◌, arith, append-nil}
use Rattle.std.proofs.Math.Seq.{take-add, take-length}
use Rattle.std.proofs.lemmas.Bool.Decides.{nat_tests}
use Rattle.std.specs.List.{slice_split}
use Rattle.chess_board.specs.declared.board.Side.{Side}
use Rattle.chess_board.specs.declared.board.Side.TheVariants.{White, Black}
use Rattle.chess_board.specs.declared.board.Kind.{Kind}
use Rattle.chess_board.specs.declared.board.Kind.TheVariants.{Pawn}
use Rattle.chess_board.specs.Board.{Occupant, Pieces}
use Rattle.chess_board.specs.Play.{fits_board}
use Rattle.fen_text.specs.Squares.{pieces_if_both, squares_of, squares_in, rank_in_text, pieces_on_ranks, ranks_in, pieces_in_field, is_slash, board_in_field}
use Rattle.fen_text.specs.Written.{empty_run, rank_text, rank_row, lower_ranks, letter_of, board_text, top_rank}
use Rattle.fen_text.proofs.Joined.{joined-assoc, joined-nothing}
use Rattle.fen_text.proofs.Rows.{length-row}
use Rattle.fen_text.proofs.Cut.{Above, above-append, above_less, slash_spares, split_whole, split_first, IsWord}

squares_of_digit : (n : ℕ) → 0 < n → n ≤ 8 → squares_of (48 + n) ≡ Some (replicate n None)
squares_of_digit n low high =
    let a : leb 49 (48 + n) ≡ true = grind (arith, nat_tests) in
    let b : leb (48 + n) 56 ≡ true = grind (arith, nat_tests) in
    let d : 48 + n - 48 ≡ n = omega arith in
    rw (a, b, d) refl

squares_of_letter : (side : Side) (kind : Kind) → squares_of (letter_of side kind) ≡ Some (Some (side, kind) ∷ [])
squares_of_letter White Pawn = refl
squares_of_letter Black Pawn = refl
squares_of_letter side k = refl

squares_in-run : (n : ℕ) → n ≤ 8 → squares_in (empty_run n) ≡ Some (replicate n None)
squares_in-run zero h = refl
squares_in-run (suc n) h =
    let l : 0 < suc n = omega arith in
    let e : ltb 0 (suc n) ≡ true = grind (arith, nat_tests) in
    rw e (joined-nothing _ ∙ squares_of_digit (suc n) l h)

nothing-joined : (a : Option Pieces) → pieces_if_both (Some []) a ≡ a
nothing-joined None = refl
nothing-joined (Some x) = refl

squares_in-append : (xs ys : List ℕ) → squares_in (xs ++ ys) ≡ pieces_if_both (squares_in xs) (squares_in ys)
squares_in-append [] ys = sym (nothing-joined (squares_in ys))
squares_in-append (x ∷ xs) ys = ap (pieces_if_both (squares_of x)) (squares_in-append xs ys) ∙ sym (joined-assoc (squares_of x) (squares_in xs) (squares_in ys))

replicate_more : (n : ℕ) (x : Occupant) (xs : Pieces) → replicate (suc n) x ++ xs ≡ replicate n x ++ x ∷ xs
replicate_more zero x xs = refl
replicate_more (suc n) x xs = ap (λ ys. x ∷ ys) (replicate_more n x xs)

squares_in-rank_text : (squares : Pieces) (empty : ℕ) → empty + length squares ≤ 8 → squares_in (rank_text empty squares) ≡ Some (replicate empty None ++ squares)
squares_in-rank_text [] empty h = squares_in-run empty (omega arith) ∙ ap Some (sym (append-nil _))
squares_in-rank_text (None ∷ squares) empty h = squares_in-rank_text squares (suc empty) (omega arith) ∙ ap Some (replicate_more empty None squares)
squares_in-rank_text (Some occupant ∷ squares) empty h =
    let before = squares_in-run empty (omega arith) in
    let at = squares_of_letter occupant.0 occupant.1 in
    let behind = squares_in-rank_text squares 0 (omega arith) in
    squares_in-append (empty_run empty) (letter_of occupant.0 occupant.1 ∷ rank_text 0 squares) ∙ rw (before, at, behind) refl

rank_of-row : (pieces : Pieces) (rank : ℕ) → length pieces ≡ 64 → rank < 8 → rank_in_text (rank_text 0 (rank_row pieces rank)) ≡ Some (rank_row pieces rank)
rank_of-row pieces rank whole low =
    let eight = length-row pieces rank whole low in
    let squares : squares_in (rank_text 0 (rank_row pieces rank)) ≡ Some (rank_row pieces rank) = squares_in-rank_text (rank_row pieces rank) 0 (omega arith) in
    rw (squares, eight) refl

-- the ranks below this one, the upper one first
texts : Pieces → ℕ → List (List ℕ)
texts pieces zero = []
texts pieces (suc rank) = rank_text 0 (rank_row pieces rank) ∷ texts pieces rank

length-texts : (pieces : Pieces) (n : ℕ) → length (texts pieces n) ≡ n
unfolding texts
length-texts pieces zero = refl
length-texts pieces (suc n) = ap suc (length-texts pieces n)

men_of-texts : (pieces : Pieces) → length pieces ≡ 64 → (n : ℕ) → n ≤ 8 → pieces_on_ranks (texts pieces n) ≡ Some (take (8 * n) pieces)
unfolding texts
men_of-texts pieces whole zero h = refl
men_of-texts pieces whole (suc n) h =
    let lower = men_of-texts pieces whole n (omega arith) in
    let upper = rank_of-row pieces n whole (omega arith) in
    let m : 8 * suc n ≡ 8 * n + 8 = omega arith in
    let together : take (8 * suc n) pieces ≡ take (8 * n) pieces ++ rank_row pieces n = ap (λ k. take k pieces) m ∙ take-add (8 * n) 8 pieces in
    rw (lower, upper, together) refl

above-run : (n : ℕ) → Above 47 (empty_run n)
above-run n = elim (ltb 0 n) as (λ v. Above 47 (cond v ((48 + n) ∷ []) [])) [ true ↦ (omega arith, tt) | false ↦ tt ]

above-letter : (side : Side) (kind : Kind) → 47 < letter_of side kind
above-letter White Pawn = omega arith
above-letter Black Pawn = omega arith
above-letter side k = omega arith

above-rank_text : (squares : Pieces) (empty : ℕ) → Above 47 (rank_text empty squares)
above-rank_text [] empty = above-run empty
above-rank_text (None ∷ squares) empty = above-rank_text squares (suc empty)
above-rank_text (Some occupant ∷ squares) empty =
    above-append 47 (empty_run empty) (letter_of occupant.0 occupant.1 ∷ rank_text 0 squares) (above-run empty) (above-letter occupant.0 occupant.1, above-rank_text squares 0)

above-lower : (pieces : Pieces) (n : ℕ) → Above 32 (lower_ranks pieces n)
above-lower pieces zero = tt
above-lower pieces (suc n) = (omega arith, above-append 32 (rank_text 0 (rank_row pieces n)) (lower_ranks pieces n) (above_less 47 32 _ (omega arith) (above-rank_text (rank_row pieces n) 0)) (above-lower pieces n))

ranks_in-texts : (pieces : Pieces) (n : ℕ) (first : List ℕ) → Above 47 first → slice_split is_slash (first ++ lower_ranks pieces n) ≡ first ∷ texts pieces n
unfolding texts
ranks_in-texts pieces zero first a = ap (slice_split is_slash) (append-nil first) ∙ split_whole 47 is_slash slash_spares first a
ranks_in-texts pieces (suc n) first a =
    split_first 47 is_slash slash_spares first 47 (rank_text 0 (rank_row pieces n) ++ lower_ranks pieces n) a refl
    ∙ ap (λ xs. first ∷ xs) (ranks_in-texts pieces n (rank_text 0 (rank_row pieces n)) (above-rank_text (rank_row pieces n) 0))

ranks_in-board : (pieces : Pieces) → ranks_in (board_text pieces) ≡ texts pieces 8
unfolding board_text top_rank texts
ranks_in-board pieces = ranks_in-texts pieces 7 (rank_text 0 (rank_row pieces 7)) (above-rank_text (rank_row pieces 7) 0)

placed-board : (pieces : Pieces) → length pieces ≡ 64 → pieces_in_field (board_text pieces) ≡ Some pieces
placed-board pieces whole =
    let ranks = ranks_in-board pieces in
    let eight : length (texts pieces 8) ≡ 8 = length-texts pieces 8 in
    let all : take 64 pieces ≡ pieces = ap (λ n. take n pieces) (sym whole) ∙ take-length pieces in
    let read : pieces_on_ranks (texts pieces 8) ≡ Some pieces = men_of-texts pieces whole 8 (omega arith) ∙ ap Some all in
    rw (ranks, eight, read) refl

pub board_of-text : (pieces : Pieces) → length pieces ≡ 64 → fits_board pieces ≡ true → board_in_field (board_text pieces) ≡ Some pieces
board_of-text pieces whole fits = rw (placed-board pieces whole, fits) refl

nonempty-append : (xs ys : List ℕ) → 0 < length xs → 0 < length (xs ++ ys)
nonempty-append [] ys h = absurd (omega arith)
nonempty-append (x ∷ xs) ys h = omega arith

nonempty-lower : (xs : List ℕ) (y : ℕ) (ys : List ℕ) → 0 < length (xs ++ y ∷ ys)
nonempty-lower [] y ys = omega arith
nonempty-lower (x ∷ xs) y ys = omega arith

pub word-board : (pieces : Pieces) → IsWord (board_text pieces)
unfolding board_text top_rank
word-board pieces = (
  nonempty-lower (rank_text 0 (rank_row pieces 7)) 47 _,
  above-append 32 (rank_text 0 (rank_row pieces 7)) (lower_ranks pieces 7) (above_less 47 32 _ (omega arith) (above-rank_text (rank_row pieces 7) 0)) (above-lower pieces 7),
)
