-- The comparison of moves.
use Rattle.std.proofs.Common.{◌≡◌, Option, Some, None, refl}
use Rattle.std.specs.Option.{option_eq}
use denote.Enum.Bare.{sameb}
use Rattle.chess_board.specs.contracts.board.Kind.{the_type}
use Rattle.chess_board.specs.declared.board.Kind.{Kind}
use Rattle.chess_board.specs.declared.board.Kind.TheVariants.{Pawn, Knight, Bishop, Rook, Queen, King}
use Rattle.search_epochs.specs.Tickets.{same_search_kind}

-- what `==` answers at kinds of pieces
kinds_compared : (a b : Kind) → sameb the_type a b ≡ same_search_kind a b
kinds_compared Pawn Pawn = refl
kinds_compared Knight Knight = refl
kinds_compared Bishop Bishop = refl
kinds_compared Rook Rook = refl
kinds_compared Queen Queen = refl
kinds_compared King King = refl
kinds_compared _ _ = refl

-- and at what a pawn becomes
pub promotions_compared : (a b : Option Kind) → option_eq (λ x y. sameb the_type x y) a b ≡ option_eq same_search_kind a b
promotions_compared None None = refl
promotions_compared None (Some b) = refl
promotions_compared (Some a) None = refl
promotions_compared (Some a) (Some b) = kinds_compared a b
