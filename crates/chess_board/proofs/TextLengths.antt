-- The lengths of the texts of moves.
use Rattle.std.proofs.Common.{◌≡◌, ℕ, ◌≤◌, List, [], ◌∷◌, length, Option, Some, None, ap, arith}
use Rattle.chess_board.specs.declared.board.Move.{Move}
use Rattle.chess_board.specs.declared.board.Kind.{Kind}
use Rattle.chess_board.specs.declared.board.Kind.TheVariants.{Pawn, Knight, Bishop, Rook, Queen, King}
use Rattle.chess_board.specs.Text.{SpellsMove, text_of_move, promotion_text}

pub promotion_length : (p : Option Kind) → length (promotion_text p) ≤ 1
promotion_length None = omega arith
promotion_length (Some Pawn) = omega arith
promotion_length (Some King) = omega arith
promotion_length (Some Queen) = omega arith
promotion_length (Some Rook) = omega arith
promotion_length (Some Bishop) = omega arith
promotion_length (Some Knight) = omega arith

pub move_length : (m : Move) → length (text_of_move m) ≤ 5
move_length m = omega (arith, promotion_length m.promotion)

no_promotion : (p : Option Kind) → p ≡ None → length (promotion_text p) ≡ 0
no_promotion p e = ap (λ o. length (promotion_text o)) e

-- a move is written with no more bytes than it was read
pub move_fits : (text : List ℕ) (m : Move) → SpellsMove text m → length (text_of_move m) ≤ length text
move_fits [] m h = absurd h
move_fits (f ∷ []) m h = absurd h
move_fits (f ∷ r ∷ []) m h = absurd h
move_fits (f ∷ r ∷ g ∷ []) m h = absurd h
move_fits (f ∷ r ∷ g ∷ s ∷ []) m h = omega (arith, no_promotion m.promotion h.2)
move_fits (f ∷ r ∷ g ∷ s ∷ letter ∷ []) m h = omega (arith, move_length m)
move_fits (f ∷ r ∷ g ∷ s ∷ letter ∷ more ∷ others) m h = absurd h
