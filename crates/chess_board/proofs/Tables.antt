-- The tables of squares that a piece could go to: each row is the set of the squares that pass the test.
use Rattle.std.proofs.Common.{◌≡◌, ◌<◌, ◌+◌, ◌*◌, ◌/◌, ◌%◌, ℕ, suc, Bool, true, false, not, cond, List, refl, sym, subst, arith, get_or}
use Rattle.chess_board.specs.declared.board.Kind.TheVariants.{Pawn, Knight, Bishop, Rook, Queen, King}
use Rattle.chess_board.specs.declared.board.Side.TheVariants.{White, Black}
use Rattle.chess_board.specs.declared.slides.TheConstants.{LINES, DIAGONALS, STRAIGHTS}
use Rattle.chess_board.specs.declared.steps.TheConstants.{JUMPS, KING_WAYS, WHITE_PAWN_WAYS, BLACK_PAWN_WAYS}
use Rattle.chess_board.specs.Board.{each_below}
use Rattle.chess_board.specs.Reach.{form, has, IsSetOf}
use Rattle.chess_board.proofs.Below.{each_below-at}

abbrev agrees : Bool → Bool → Bool
agrees a b = cond a b (not b)

agree-is : (a b : Bool) → agrees a b ≡ true → a ≡ b
agree-is true b e = sym e
agree-is false true e = absurd (cc)
agree-is false false e = refl

-- a row of a table has exactly the squares that pass the test
abbrev row_fits : List ℕ → (ℕ → ℕ → Bool) → ℕ → Bool
row_fits table test from = each_below 64 (λ to. agrees (has (get_or table from 0) to) (test from to))

abbrev part_fits : List ℕ → (ℕ → ℕ → Bool) → ℕ → Bool
part_fits table test part = each_below 8 (λ i. row_fits table test (part * 8 + i))

in_part : (table : List ℕ) (test : ℕ → ℕ → Bool) → ((part : ℕ) → part < 8 → part_fits table test part ≡ true) → (from : ℕ) → from < 64 → IsSetOf (test from) (get_or table from 0)
in_part table test fits from low s low' =
    let part = fits (from / 8) (omega arith) in
    let row = each_below-at 8 (from % 8) (λ i. row_fits table test (from / 8 * 8 + i)) part (omega arith) in
    let e : from / 8 * 8 + from % 8 ≡ from = omega arith in
    let row' : row_fits table test from ≡ true = subst (λ (n : ℕ). row_fits table test n ≡ true) e row in
    agree-is _ _ (each_below-at 64 s (λ to. agrees (has (get_or table from 0) to) (test from to)) row' low')

lines-part : (part : ℕ) → part < 8 → part_fits LINES (form White Queen) part ≡ true
lines-part (suc (suc (suc (suc (suc (suc (suc (suc n)))))))) h = absurd (omega arith)
lines-part part h = refl

pub lines-fits : (from : ℕ) → from < 64 → IsSetOf (form White Queen from) (get_or LINES from 0)
lines-fits from low = in_part LINES (form White Queen) lines-part from low

diagonals-part : (part : ℕ) → part < 8 → part_fits DIAGONALS (form White Bishop) part ≡ true
diagonals-part (suc (suc (suc (suc (suc (suc (suc (suc n)))))))) h = absurd (omega arith)
diagonals-part part h = refl

pub diagonals-fits : (from : ℕ) → from < 64 → IsSetOf (form White Bishop from) (get_or DIAGONALS from 0)
diagonals-fits from low = in_part DIAGONALS (form White Bishop) diagonals-part from low

straights-part : (part : ℕ) → part < 8 → part_fits STRAIGHTS (form White Rook) part ≡ true
straights-part (suc (suc (suc (suc (suc (suc (suc (suc n)))))))) h = absurd (omega arith)
straights-part part h = refl

pub straights-fits : (from : ℕ) → from < 64 → IsSetOf (form White Rook from) (get_or STRAIGHTS from 0)
straights-fits from low = in_part STRAIGHTS (form White Rook) straights-part from low

jumps-part : (part : ℕ) → part < 8 → part_fits JUMPS (form White Knight) part ≡ true
jumps-part (suc (suc (suc (suc (suc (suc (suc (suc n)))))))) h = absurd (omega arith)
jumps-part part h = refl

pub jumps-fits : (from : ℕ) → from < 64 → IsSetOf (form White Knight from) (get_or JUMPS from 0)
jumps-fits from low = in_part JUMPS (form White Knight) jumps-part from low

king_ways-part : (part : ℕ) → part < 8 → part_fits KING_WAYS (form White King) part ≡ true
king_ways-part (suc (suc (suc (suc (suc (suc (suc (suc n)))))))) h = absurd (omega arith)
king_ways-part part h = refl

pub king_ways-fits : (from : ℕ) → from < 64 → IsSetOf (form White King from) (get_or KING_WAYS from 0)
king_ways-fits from low = in_part KING_WAYS (form White King) king_ways-part from low

white_pawn_ways-part : (part : ℕ) → part < 8 → part_fits WHITE_PAWN_WAYS (form White Pawn) part ≡ true
white_pawn_ways-part (suc (suc (suc (suc (suc (suc (suc (suc n)))))))) h = absurd (omega arith)
white_pawn_ways-part part h = refl

pub white_pawn_ways-fits : (from : ℕ) → from < 64 → IsSetOf (form White Pawn from) (get_or WHITE_PAWN_WAYS from 0)
white_pawn_ways-fits from low = in_part WHITE_PAWN_WAYS (form White Pawn) white_pawn_ways-part from low

black_pawn_ways-part : (part : ℕ) → part < 8 → part_fits BLACK_PAWN_WAYS (form Black Pawn) part ≡ true
black_pawn_ways-part (suc (suc (suc (suc (suc (suc (suc (suc n)))))))) h = absurd (omega arith)
black_pawn_ways-part part h = refl

pub black_pawn_ways-fits : (from : ℕ) → from < 64 → IsSetOf (form Black Pawn from) (get_or BLACK_PAWN_WAYS from 0)
black_pawn_ways-fits from low = in_part BLACK_PAWN_WAYS (form Black Pawn) black_pawn_ways-part from low
