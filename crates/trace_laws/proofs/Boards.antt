-- A position that was read from a text is one.
use Rattle.std.proofs.Common.{◌≡◌, ℕ, ◌+◌, ◌-◌, ◌*◌, ◌<◌, length, List, [], ◌∷◌, Bool, true, false, cond, ◌==◌, Option, Some, None, Result, Ok, Err, refl, ap, subst, arith, length-append}
use Rattle.std.specs.Prelude.{IfSome}
use Rattle.std.specs.List.{slice_get}
use Rattle.std.specs.Option.{option_and_then}
use Rattle.std.proofs.lemmas.Bool.Decides.{nat_tests}
use Rattle.chess_board.specs.declared.board.Side.{Side}
use Rattle.chess_board.specs.declared.board.Rights.{Rights}
use Rattle.chess_board.specs.declared.board.BuildFault.{BuildFault}
use Rattle.chess_board.specs.Board.{Pieces}
use Rattle.chess_board.specs.Position.{Position}
use Rattle.chess_board.specs.Play.{IsPosition, position_if_built, fits_board}
use Rattle.chess_board.proofs.Built.{built-is}
use Rattle.protocol_tokens.specs.Tokens.{tokens}
use Rattle.fen_text.specs.Squares.{pieces_if_both, exactly, squares_in, rank_in_text, pieces_on_ranks, ranks_in, pieces_in_field, pieces_if_fitting, board_in_field}
use Rattle.fen_text.specs.Fields.{en_passant_of, is_passed_square}
use Rattle.fen_text.specs.Fen.{or_fault, position_from_fields, position_of}

-- so many squares, if they are there
abbrev Has : ℕ → Option Pieces → Type 0
Has n o = IfSome o (λ pieces. length pieces ≡ n)

exactly_has : (n : ℕ) (o : Option Pieces) → Has n (exactly n o)
exactly_has n None = tt
exactly_has n (Some squares) = by (length squares == n) refl where
  by : (b : Bool) → (length squares == n) ≡ b → Has n (cond b (Some squares) None)
  by true e = grind (arith, nat_tests)
  by false e = tt

joined_has : (m n : ℕ) (a b : Option Pieces) → Has m a → Has n b → Has (m + n) (pieces_if_both a b)
joined_has m n None b h k = tt
joined_has m n (Some x) None h k = tt
joined_has m n (Some x) (Some y) h k = omega (arith, length-append x y, h, k)

pieces_has : (ranks : List (List ℕ)) → Has (8 * length ranks) (pieces_on_ranks ranks)
pieces_has [] = refl
pieces_has (upper ∷ lower) =
    let n : 8 * length lower + 8 ≡ 8 * length (upper ∷ lower) = omega arith in
    subst (λ k. Has k (pieces_on_ranks (upper ∷ lower))) n (joined_has (8 * length lower) 8 (pieces_on_ranks lower) (rank_in_text upper) (pieces_has lower) (exactly_has 8 (squares_in upper)))

placed_has : (field : List ℕ) → Has 64 (pieces_in_field field)
placed_has field = by (length (ranks_in field) == 8) refl where
  by : (b : Bool) → (length (ranks_in field) == 8) ≡ b → Has 64 (cond b (pieces_on_ranks (ranks_in field)) None)
  by true e =
      let n : 8 * length (ranks_in field) ≡ 64 = let x : length (ranks_in field) ≡ 8 = grind (arith, nat_tests) in omega arith in
      subst (λ k. Has k (pieces_on_ranks (ranks_in field))) n (pieces_has (ranks_in field))
  by false e = tt

fitting_has : (o : Option Pieces) → Has 64 o → Has 64 (pieces_if_fitting o)
fitting_has None h = tt
fitting_has (Some pieces) h = by (fits_board pieces) where
  by : (b : Bool) → Has 64 (cond b (Some pieces) None)
  by true = h
  by false = tt

board_has : (o : Option (List ℕ)) → Has 64 (option_and_then board_in_field o)
board_has None = tt
board_has (Some field) = fitting_has (pieces_in_field field) (placed_has field)

-- a square on the board, if there is one
abbrev IsLow : Option (Option ℕ) → Type 0
IsLow o = IfSome o (λ at. IfSome at (λ s. s < 64))

dash_low : (b : Bool) → IsLow (cond b (Some None) None)
dash_low true = tt
dash_low false = tt

passed_low : (file rank : ℕ) (b : Bool) → is_passed_square file rank ≡ b → IsLow (cond b (Some (Some ((rank - 49) * 8 + (file - 97)))) None)
passed_low file rank true e = grind (arith, nat_tests)
passed_low file rank false e = tt

en_passant_low : (field : List ℕ) → IsLow (en_passant_of field)
en_passant_low [] = tt
en_passant_low (byte ∷ []) = dash_low (byte == 45)
en_passant_low (file ∷ rank ∷ []) = passed_low file rank (is_passed_square file rank) refl
en_passant_low (file ∷ rank ∷ more ∷ others) = tt

en_passant_has : (o : Option (List ℕ)) → IsLow (option_and_then en_passant_of o)
en_passant_has None = tt
en_passant_has (Some field) = en_passant_low field

right_is : (r : Result Position BuildFault) (p : Position) → or_fault r ≡ Ok p → r ≡ Ok p
right_is (Ok q) p e = let same : q ≡ p = cc in ap Ok same
right_is (Err fault) p e = absurd (cc)

spelled_is : (pieces : Option Pieces) (side : Option Side) (rights : Option Rights) (passant : Option (Option ℕ)) (half full : Option ℕ) (p : Position) → Has 64 pieces → IsLow passant
    → position_from_fields pieces side rights passant half full ≡ Ok p → IsPosition p
spelled_is None side rights passant half full p h l e = absurd (cc)
spelled_is (Some pieces) None rights passant half full p h l e = absurd (cc)
spelled_is (Some pieces) (Some side) None passant half full p h l e = absurd (cc)
spelled_is (Some pieces) (Some side) (Some rights) None half full p h l e = absurd (cc)
spelled_is (Some pieces) (Some side) (Some rights) (Some passant) None full p h l e = absurd (cc)
spelled_is (Some pieces) (Some side) (Some rights) (Some passant) (Some half) None p h l e = absurd (cc)
spelled_is (Some pieces) (Some side) (Some rights) (Some passant) (Some half) (Some full) p h l e =
    let given : Position = record { pieces = pieces; side = side; rights = rights; passant = passant; half = half; full = full } in
    built-is given p h l (right_is (position_if_built given) p e)

pub read_is : (text : List ℕ) (p : Position) → position_of text ≡ Ok p → IsPosition p
unfolding position_of
read_is text p e =
    let fields = tokens text in
    spelled_is (option_and_then board_in_field (slice_get fields 0)) _ _ (option_and_then en_passant_of (slice_get fields 3)) _ _ p (board_has (slice_get fields 0)) (en_passant_has (slice_get fields 3)) e
