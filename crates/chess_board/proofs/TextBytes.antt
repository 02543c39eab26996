-- No byte of a move's text is below the digit 1.
use Rattle.std.proofs.Common.{◌≡◌, ℕ, ◌+◌, ◌≤◌, true, leb, Option, Some, None, refl, arith}
use Rattle.std.proofs.lemmas.Bool.Decides.{nat_tests}
use Rattle.std.specs.List.{list_all}
use Rattle.chess_board.specs.declared.board.Move.{Move}
use Rattle.chess_board.specs.declared.board.Kind.{Kind}
use Rattle.chess_board.specs.declared.board.Kind.TheVariants.{Pawn, Knight, Bishop, Rook, Queen, King}
use Rattle.chess_board.specs.Board.{file_of, rank_of_square}
use Rattle.chess_board.specs.Text.{text_of_move, promotion_text}

high : (c : ℕ) → 49 ≤ c → leb 49 c ≡ true
high c h = grind (arith, nat_tests)

promotion_high : (p : Option Kind) → list_all (λ b. leb 49 b) (promotion_text p) ≡ true
promotion_high None = refl
promotion_high (Some Pawn) = refl
promotion_high (Some King) = refl
promotion_high (Some Queen) = refl
promotion_high (Some Rook) = refl
promotion_high (Some Bishop) = refl
promotion_high (Some Knight) = refl

pub text_high : (m : Move) → list_all (λ b. leb 49 b) (text_of_move m) ≡ true
text_high m =
    let a = high (97 + file_of m.from.index) (omega arith) in
    let b = high (49 + rank_of_square m.from.index) (omega arith) in
    let c = high (97 + file_of m.to.index) (omega arith) in
    let d = high (49 + rank_of_square m.to.index) (omega arith) in
    rw (a, b, c, d, promotion_high m.promotion) refl
