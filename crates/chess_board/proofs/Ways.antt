-- The existence of a legal move, by tests of all pairs of squares.
use Rattle.std.proofs.Common.{◌≡◌, ◌<◌, ℕ, Bool, true, false, Option, sym, subst, ◌∙◌}
use Rattle.std.specs.Bool.{Decides}
use Rattle.chess_board.specs.declared.board.Kind.{Kind}
use Rattle.chess_board.specs.declared.board.Square.{Square}
use Rattle.chess_board.specs.Board.{is_of_side, piece_at, squares}
use Rattle.chess_board.specs.Position.{Position}
use Rattle.chess_board.specs.Rules.{is_legal, reaches_to}
use Rattle.chess_board.specs.Play.{HasLegal}
use Rattle.chess_board.specs.Place.{nth_promotion, promotion_place, has_way, has_way_from, has_any_way}
use Rattle.chess_board.proofs.Below.{some_below-hit, some_below-none, some_below-found, some_square-hit, squares-is}
use Rattle.chess_board.proofs.Legal.{legal-law}
use Rattle.chess_board.proofs.Places.{never_from, never_to, proper, promotion-promotion_place}

-- from a square with no piece of the side there is none
pub no_way_from : (p : Position) (from : ℕ) → is_of_side p.side (piece_at p.pieces from) ≡ false → has_way_from p from ≡ false
unfolding has_way_from has_way
no_way_from p from e = some_below-none squares _ (λ to _. some_below-none 5 _ (λ choice _. never_from p from to (nth_promotion choice) e))

-- nor to a square that the piece does not reach
pub no_way : (p : Position) (from to : ℕ) → reaches_to p from to ≡ false → has_way p from to ≡ false
unfolding has_way
no_way p from to e = some_below-none 5 _ (λ choice _. never_to p from to (nth_promotion choice) e)

-- a legal move is found by its squares and its promotion
legal_way : (p : Position) (from to : ℕ) (promotion : Option Kind) → is_legal p from to promotion ≡ true → has_way p from to ≡ true
unfolding has_way
legal_way p from to promotion e =
    let low = proper p from to promotion e in
    let same : nth_promotion (promotion_place promotion) ≡ promotion = promotion-promotion_place promotion low in
    some_below-hit 5 (promotion_place promotion) (λ choice. is_legal p from to (nth_promotion choice)) low (subst (λ (q : Option Kind). is_legal p from to q ≡ true) (sym same) e)

abbrev square : (s : ℕ) → s < 64 → Square
square s low = record { index = s; on_board = low }

some_move : (p : Position) (from to : ℕ) (promotion : Option Kind) → from < 64 → to < 64 → is_legal p from to promotion ≡ true → HasLegal p
some_move p from to promotion f t e = record { move = record { from = square from f; to = square to t; promotion = promotion }; legal = (legal-law p from to promotion).0 e }

-- the test decides whether the side on move has a legal move
pub way-law : (p : Position) → Decides (has_any_way p) (HasLegal p)
unfolding has_any_way has_way_from has_way
way-law p = (
  λ e.
      let from = some_below-found squares (has_way_from p) e in
      let to = some_below-found squares (has_way p from.0) from.2 in
      let choice = some_below-found 5 (λ choice. is_legal p from.0 to.0 (nth_promotion choice)) to.2 in
      some_move p from.0 to.0 (nth_promotion choice.0) (subst (λ (n : ℕ). from.0 < n) squares-is from.1) (subst (λ (n : ℕ). to.0 < n) squares-is to.1) choice.2,
  λ h.
      let m = h.move in
      let test = (legal-law p m.from.index m.to.index m.promotion).1 h.legal in
      some_square-hit (has_way_from p) m.from.index m.from.on_board
      (some_square-hit (has_way p m.from.index) m.to.index m.to.on_board (legal_way p m.from.index m.to.index m.promotion test)),
)

-- the law at a test's answer
pub way_answer : (r : Bool) (p q : Position) → p ≡ q → r ≡ has_any_way p → Decides r (HasLegal q)
way_answer r p q same e =
    let law = way-law q in
    let is : r ≡ has_any_way q = subst (λ (s : Position). r ≡ has_any_way s) same e in
    (λ t. law.0 (sym is ∙ t), λ h. is ∙ law.1 h)
