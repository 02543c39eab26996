-- The length of the text of a move.
use Rattle.std.proofs.Common.{◌≡◌, ℕ, ◌+◌, ◌≤◌, List, [], ◌∷◌, ◌++◌, length, Bool, true, false, not, cond, Option, Some, None, refl, sym, ap, ◌∙◌, subst, arith, length-append}
use Rattle.chess_board.specs.declared.board.Kind.{Kind}
use Rattle.chess_board.specs.declared.board.Kind.TheVariants.{Pawn, Knight, Bishop, Rook, Queen, King}
use Rattle.chess_board.specs.declared.board.Move.{Move}
use Rattle.chess_board.specs.Attack.{is_checked}
use Rattle.chess_board.specs.Board.{is_pawn_kind}
use Rattle.chess_board.specs.Laws.{IsLegal, Promotes}
use Rattle.chess_board.specs.Place.{has_any_way}
use Rattle.chess_board.specs.Position.{Position}
use Rattle.san_text.specs.declared.pieces.RivalSquares.TheVariants.{Board, File, Rank}
use Rattle.san_text.specs.Writing.{kind_at, castles_short, castles_long, move_captures, has_rival, file_letter, rank_digit, letter, origin, promotion_letters, target, capture_text, body, position_after_move, sign, san_of_move, SanTextsAreShort}
use Rattle.san_text.proofs.Alone.{kind_of_move}

sign_by : (checked moves : Bool) → length {A = ℕ} (cond checked (cond moves (43 ∷ []) (35 ∷ [])) []) ≤ 1
sign_by true true = omega arith
sign_by true false = omega arith
sign_by false moves = omega arith

sign_short : (p : Position) → length (sign p) ≤ 1
sign_short p = sign_by (is_checked p.pieces p.side) (has_any_way p)

letter_short : (k : Kind) → length (letter k) ≤ 1
letter_short Pawn = omega arith
letter_short Knight = omega arith
letter_short Bishop = omega arith
letter_short Rook = omega arith
letter_short Queen = omega arith
letter_short King = omega arith

promotion_short : (promotion : Option Kind) → length (promotion_letters promotion) ≤ 2
promotion_short None = omega arith
promotion_short (Some k) = omega (arith, letter_short k)

takes_short : (takes : Bool) → length {A = ℕ} (cond takes (120 ∷ []) []) ≤ 1
takes_short true = omega arith
takes_short false = omega arith

distinct_short : (b f r : Bool) (file rank : ℕ) → length (cond (not b) [] (cond (not f) (file ∷ []) (cond (not r) (rank ∷ []) (file ∷ rank ∷ [])))) ≤ 2
distinct_short false f r file rank = omega arith
distinct_short true false r file rank = omega arith
distinct_short true true false file rank = omega arith
distinct_short true true true file rank = omega arith

file_short : (takes : Bool) (file : ℕ) → length (cond takes (file ∷ []) []) ≤ 1
file_short true file = omega arith
file_short false file = omega arith

-- only a pawn becomes another piece
promotion_none : (k : Kind) (p : Position) (to : ℕ) (promotion : Option Kind) → is_pawn_kind k ≡ false → Promotes p.side k to promotion → promotion ≡ None
promotion_none Pawn p to promotion e h = absurd (cc)
promotion_none Knight p to promotion e h = h
promotion_none Bishop p to promotion e h = h
promotion_none Rook p to promotion e h = h
promotion_none Queen p to promotion e h = h
promotion_none King p to promotion e h = h

pawn_letter : (k : Kind) → is_pawn_kind k ≡ true → length (letter k) ≡ 0
pawn_letter Pawn e = refl
pawn_letter Knight e = absurd (cc)
pawn_letter Bishop e = absurd (cc)
pawn_letter Rook e = absurd (cc)
pawn_letter Queen e = absurd (cc)
pawn_letter King e = absurd (cc)

-- the promotion of a legal move
promotion_by : (p : Position) (m : Move) → IsLegal p m.from.index m.to.index m.promotion → is_pawn_kind (kind_at p m.from.index) ≡ false → m.promotion ≡ None
promotion_by p m h e = promotion_none (kind_at p m.from.index) p m.to.index m.promotion e (subst (λ (k : Kind). Promotes p.side k m.to.index m.promotion) (sym (kind_of_move p m.from.index m.to.index m.promotion h)) h.promoted)

piece_by : (p : Position) (m : Move) (pawn : Bool) → is_pawn_kind (kind_at p m.from.index) ≡ pawn → IsLegal p m.from.index m.to.index m.promotion
    → length (letter (kind_at p m.from.index)) + (length (cond pawn (cond (move_captures p m) (file_letter m.from.index ∷ []) []) (cond (not (has_rival p m Board)) [] (cond (not (has_rival p m File)) (file_letter m.from.index ∷ []) (cond (not (has_rival p m Rank)) (rank_digit m.from.index ∷ []) (file_letter m.from.index ∷ rank_digit m.from.index ∷ []))))) + (length (capture_text p m) + length (target m))) ≤ 6
piece_by p m true e h = omega (arith, pawn_letter (kind_at p m.from.index) e, file_short (move_captures p m) (file_letter m.from.index), takes_short (move_captures p m), promotion_short m.promotion)
piece_by p m false e h =
    let none = ap (λ (o : Option Kind). length (promotion_letters o)) (promotion_by p m h e) in
    omega (
      arith,
      none,
      letter_short (kind_at p m.from.index),
      distinct_short (has_rival p m Board) (has_rival p m File) (has_rival p m Rank) (file_letter m.from.index) (rank_digit m.from.index),
      takes_short (move_captures p m),
    )

body_by : (p : Position) (m : Move) (short long : Bool) → IsLegal p m.from.index m.to.index m.promotion
    → length (cond short (79 ∷ 45 ∷ 79 ∷ []) (cond long (79 ∷ 45 ∷ 79 ∷ 45 ∷ 79 ∷ []) (letter (kind_at p m.from.index) ++ (origin p m ++ (capture_text p m ++ target m))))) ≤ 6
body_by p m true long h = omega arith
body_by p m false true h = omega arith
body_by p m false false h = omega (
  arith,
  piece_by p m (is_pawn_kind (kind_at p m.from.index)) refl h,
  length-append (letter (kind_at p m.from.index)) (origin p m ++ (capture_text p m ++ target m)),
  length-append (origin p m) (capture_text p m ++ target m),
  length-append (capture_text p m) (target m),
)

pub short : SanTextsAreShort
unfolding san_of_move
short p m h = omega (arith, body_by p m (castles_short p m) (castles_long p m) h, sign_short (position_after_move p m), length-append (body p m) (sign (position_after_move p m)))
