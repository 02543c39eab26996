-- The text of a move in standard algebraic notation has no line feed.
use Rattle.std.proofs.Common.{◌≡◌, ℕ, ◌+◌, List, [], ◌∷◌, ◌++◌, Bool, true, false, not, cond, Option, Some, None, refl, arith}
use Rattle.chess_board.specs.declared.board.Kind.{Kind}
use Rattle.chess_board.specs.declared.board.Kind.TheVariants.{Pawn, Knight, Bishop, Rook, Queen, King}
use Rattle.chess_board.specs.declared.board.Move.{Move}
use Rattle.chess_board.specs.Attack.{is_checked}
use Rattle.chess_board.specs.Board.{file_of, rank_of_square, is_pawn_kind}
use Rattle.chess_board.specs.Place.{has_any_way}
use Rattle.chess_board.specs.Position.{Position}
use Rattle.san_text.specs.declared.pieces.RivalSquares.TheVariants.{Board, File, Rank}
use Rattle.san_text.specs.Writing.{kind_at, castles_short, castles_long, move_captures, has_rival, file_letter, rank_digit, letter, origin, promotion_letters, target, capture_text, body, position_after_move, sign, san_of_move}
use Rattle.option_map.proofs.DeclaredOptions.Values.{no_feed}
use Rattle.trace_laws.proofs.Pieces.{both_bare, high_bare}

sign_by : (checked moves : Bool) → no_feed (cond checked (cond moves (43 ∷ []) (35 ∷ [])) []) ≡ true
sign_by true true = refl
sign_by true false = refl
sign_by false moves = refl

letter_bare : (k : Kind) → no_feed (letter k) ≡ true
letter_bare Pawn = refl
letter_bare Knight = refl
letter_bare Bishop = refl
letter_bare Rook = refl
letter_bare Queen = refl
letter_bare King = refl

promotion_bare : (promotion : Option Kind) → no_feed (promotion_letters promotion) ≡ true
promotion_bare None = refl
promotion_bare (Some k) = letter_bare k

file_bare : (s : ℕ) → no_feed (file_letter s ∷ []) ≡ true
file_bare s = rw (high_bare 97 (file_of s) (omega arith)) refl

rank_bare : (s : ℕ) → no_feed (rank_digit s ∷ []) ≡ true
rank_bare s = rw (high_bare 49 (rank_of_square s) (omega arith)) refl

square_bare : (s : ℕ) → no_feed (file_letter s ∷ rank_digit s ∷ []) ≡ true
square_bare s = both_bare (file_letter s ∷ []) (rank_digit s ∷ []) (file_bare s) (rank_bare s)

where_bare : (b : Bool) (t u : List ℕ) → no_feed t ≡ true → no_feed u ≡ true → no_feed (cond b t u) ≡ true
where_bare true t u h k = h
where_bare false t u h k = k

origin_bare : (p : Position) (m : Move) → no_feed (origin p m) ≡ true
origin_bare p m =
    let s = m.from.index in
    where_bare (is_pawn_kind (kind_at p s)) _ _ (where_bare (move_captures p m) (file_letter s ∷ []) [] (file_bare s) refl)
    (where_bare (not (has_rival p m Board)) [] _ refl
    (where_bare (not (has_rival p m File)) (file_letter s ∷ []) _ (file_bare s)
    (where_bare (not (has_rival p m Rank)) (rank_digit s ∷ []) (file_letter s ∷ rank_digit s ∷ []) (rank_bare s) (square_bare s))))

piece_bare : (p : Position) (m : Move) → no_feed (letter (kind_at p m.from.index) ++ (origin p m ++ (capture_text p m ++ target m))) ≡ true
piece_bare p m =
    both_bare (letter (kind_at p m.from.index)) (origin p m ++ (capture_text p m ++ target m)) (letter_bare (kind_at p m.from.index))
    (both_bare (origin p m) (capture_text p m ++ target m) (origin_bare p m)
    (both_bare (capture_text p m) (target m) (where_bare (move_captures p m) (120 ∷ []) [] refl refl)
    (both_bare (file_letter m.to.index ∷ rank_digit m.to.index ∷ []) (promotion_letters m.promotion) (square_bare m.to.index) (promotion_bare m.promotion))))

body_bare : (p : Position) (m : Move) → no_feed (body p m) ≡ true
body_bare p m =
    where_bare (castles_short p m) (79 ∷ 45 ∷ 79 ∷ []) _ refl
    (where_bare (castles_long p m) (79 ∷ 45 ∷ 79 ∷ 45 ∷ 79 ∷ []) (letter (kind_at p m.from.index) ++ (origin p m ++ (capture_text p m ++ target m))) refl (piece_bare p m))

pub san_bare : (p : Position) (m : Move) → no_feed (san_of_move p m) ≡ true
unfolding san_of_move
san_bare p m = both_bare (body p m) (sign (position_after_move p m)) (body_bare p m) (sign_by (is_checked (position_after_move p m).pieces (position_after_move p m).side) (has_any_way (position_after_move p m)))
