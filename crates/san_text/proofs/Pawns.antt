-- Two pawns of a side that may legally go to one square, told apart by the file if one captures.
use Rattle.std.proofs.Common.{◌≡◌, ◌≢◌, ◌⊎◌, inl, inr, ℕ, ◌+◌, ◌*◌, ◌-◌, ◌/◌, ◌%◌, ◌<◌, ◌≤◌, Bool, true, false, cond, Option, Some, None, refl, ap, sym, subst, ◌∙◌, arith}
use Rattle.std.specs.Prelude.{nat_lt}
use Rattle.std.proofs.lemmas.Bool.Decides.{nat_tests}
use Rattle.chess_board.specs.declared.board.Side.{Side}
use Rattle.chess_board.specs.declared.board.Side.TheVariants.{White, Black}
use Rattle.chess_board.specs.declared.board.Kind.{Kind}
use Rattle.chess_board.specs.declared.board.Kind.TheVariants.{Pawn}
use Rattle.chess_board.specs.Board.{Occupant, Pieces, piece_at, other, file_of, rank_of_square, square_at, files_apart, gap, toward, on_the_way}
use Rattle.chess_board.specs.Position.{Position}
use Rattle.chess_board.specs.Rules.{second_rank, fifth_rank, beside}
use Rattle.chess_board.specs.Laws.{IsOf, Ahead, Strikes, PawnAdvances, TakesEnPassant, MayReach}
use Rattle.san_text.proofs.Texts.{square_again}

pub same_square : (a b : ℕ) → file_of a ≡ file_of b → rank_of_square a ≡ rank_of_square b → a ≡ b
same_square a b e f = sym (square_again a) ∙ ap (λ x. square_at x (rank_of_square a)) e ∙ ap (λ x. square_at (file_of b) x) f ∙ square_again b

ahead_same : (side : Side) (r q t n : ℕ) → Ahead side r t n → Ahead side q t n → r ≡ q
ahead_same White r q t n h i = omega arith
ahead_same Black r q t n h i = omega arith

no_gap : (a b : ℕ) → gap a b ≡ 0 → a ≡ b
no_gap a b e = omega arith

gap_none : (a b : ℕ) → a ≡ b → gap a b ≡ 0
gap_none a b e = omega arith

itself : (x : ℕ) → nat_lt x x ≡ false
itself x = grind (arith, nat_tests)

toward_same : (x k : ℕ) → toward x x k ≡ x
toward_same x k = rw (itself x) refl

less : (x y : ℕ) → x < y → nat_lt x y ≡ true
less x y h = grind (arith, nat_tests)

not_less : (x y : ℕ) → y ≤ x → nat_lt x y ≡ false
not_less x y h = grind (arith, nat_tests)

-- the rank between the two of a double step is the one before its end
between_ranks : (side : Side) (from to one : ℕ) → Ahead side from to 2 → Ahead side one to 1 → toward from to 1 ≡ one
between_ranks White from to one h i = rw (less from to (omega arith)) (omega arith)
between_ranks Black from to one h i = rw (not_less from to (omega arith), less to from (omega arith)) (omega arith)

-- a double step passes the square from which a single step reaches the same square
passes : (side : Side) (b t a : ℕ) → file_of b ≡ file_of t → file_of a ≡ file_of t → Ahead side (rank_of_square b) (rank_of_square t) 2 → Ahead side (rank_of_square a) (rank_of_square t) 1 → on_the_way b t 1 ≡ a
passes side b t a fb fa hb ha =
    ap (λ x. square_at x (toward (rank_of_square b) (rank_of_square t) 1)) (ap (λ x. toward x (file_of t) 1) fb ∙ toward_same (file_of t) 1 ∙ sym fa)
    ∙ ap (λ x. square_at (file_of a) x) (between_ranks side (rank_of_square b) (rank_of_square t) (rank_of_square a) hb ha) ∙ square_again a

two_steps : (pieces : Pieces) (side : Side) (a b t : ℕ) → piece_at pieces a ≡ Some (side, Pawn) → piece_at pieces b ≡ Some (side, Pawn)
    → (((files_apart a t ≡ 0) × Ahead side (rank_of_square a) (rank_of_square t) 1) ⊎ ((((files_apart a t ≡ 0) × (rank_of_square a ≡ second_rank side)) × Ahead side (rank_of_square a) (rank_of_square t) 2) × (piece_at pieces (on_the_way a t 1) ≡ None)))
    → (((files_apart b t ≡ 0) × Ahead side (rank_of_square b) (rank_of_square t) 1) ⊎ ((((files_apart b t ≡ 0) × (rank_of_square b ≡ second_rank side)) × Ahead side (rank_of_square b) (rank_of_square t) 2) × (piece_at pieces (on_the_way b t 1) ≡ None)))
    → a ≡ b
two_steps pieces side a b t ma mb (inl x) (inl y) =
    same_square a b (no_gap (file_of a) (file_of t) x.0 ∙ sym (no_gap (file_of b) (file_of t) y.0)) (ahead_same side (rank_of_square a) (rank_of_square b) (rank_of_square t) 1 x.1 y.1)
two_steps pieces side a b t ma mb (inr x) (inr y) =
    same_square a b (no_gap (file_of a) (file_of t) x.0.0.0 ∙ sym (no_gap (file_of b) (file_of t) y.0.0.0)) (ahead_same side (rank_of_square a) (rank_of_square b) (rank_of_square t) 2 x.0.1 y.0.1)
two_steps pieces side a b t ma mb (inl x) (inr y) =
    let way = ap (piece_at pieces) (passes side b t a (no_gap (file_of b) (file_of t) y.0.0.0) (no_gap (file_of a) (file_of t) x.0) y.0.1 x.1) in absurd (cc (ma, way, y.1))
two_steps pieces side a b t ma mb (inr x) (inl y) =
    let way = ap (piece_at pieces) (passes side a t b (no_gap (file_of a) (file_of t) x.0.0.0) (no_gap (file_of b) (file_of t) y.0) x.0.1 y.1) in absurd (cc (mb, way, x.1))

-- if a pawn on an empty square's file could go to it, no pawn captures en passant on it
fifth_not : (side : Side) (a b t : ℕ) → a ≡ second_rank side → Ahead side a t 2 → b ≡ fifth_rank side → Ahead side b t 1 → ⊥
fifth_not White a b t e h f i = omega arith
fifth_not Black a b t e h f i = omega arith

abbrev side_of : Occupant → Side
side_of None = White
side_of (Some occupant) = occupant.0

own_not_other : (side : Side) (occupant : Occupant) → occupant ≡ Some (side, Pawn) → occupant ≡ Some (other side, Pawn) → ⊥
own_not_other White occupant e f = let sides : White ≡ Black = ap side_of (sym e ∙ f) in cc sides
own_not_other Black occupant e f = let sides : Black ≡ White = ap side_of (sym e ∙ f) in cc sides

no_en_passant : (p : Position) (a b t : ℕ) → piece_at p.pieces a ≡ Some (p.side, Pawn) → TakesEnPassant p b t
    → (((files_apart a t ≡ 0) × Ahead p.side (rank_of_square a) (rank_of_square t) 1) ⊎ ((((files_apart a t ≡ 0) × (rank_of_square a ≡ second_rank p.side)) × Ahead p.side (rank_of_square a) (rank_of_square t) 2) × (piece_at p.pieces (on_the_way a t 1) ≡ None))) → ⊥
no_en_passant p a b t ma takes (inl x) =
    let here : beside b t ≡ a = ap (λ r. square_at (file_of t) r) (ahead_same p.side (rank_of_square b) (rank_of_square a) (rank_of_square t) 1 takes.1.0.0.1 x.1) ∙ ap (λ f. square_at f (rank_of_square a)) (sym (no_gap (file_of a) (file_of t) x.0)) ∙ square_again a in
    own_not_other p.side (piece_at p.pieces a) ma (ap (piece_at p.pieces) (sym here) ∙ takes.1.1)
no_en_passant p a b t ma takes (inr x) = fifth_not p.side (rank_of_square a) (rank_of_square b) (rank_of_square t) x.0.0.1 x.0.1 takes.0.1 takes.1.0.0.1

strike_file : (side : Side) (a t : ℕ) → Strikes side a t → file_of a ≡ file_of t → ⊥
strike_file side a t s e = let g = gap_none (file_of a) (file_of t) e in absurd (cc (s.0, g))

-- a pawn that leaves its file strikes
leaves : (p : Position) (a t : ℕ) → MayReach p Pawn a t → file_of a ≢ file_of t → Strikes p.side a t
leaves p a t (inl advance) h = absurd (elim (advance.1) [ inl x ↦ h (no_gap (file_of a) (file_of t) x.0) | inr x ↦ h (no_gap (file_of a) (file_of t) x.0.0.0) ])
leaves p a t (inr (inl strike)) h = strike.0
leaves p a t (inr (inr takes)) h = takes.1.0.0

pub stays : (p : Position) (a t : ℕ) → MayReach p Pawn a t → file_of a ≡ file_of t → PawnAdvances p.pieces p.side a t
stays p a t (inl advance) h = advance
stays p a t (inr (inl strike)) h = absurd (strike_file p.side a t strike.0 h)
stays p a t (inr (inr takes)) h = absurd (strike_file p.side a t takes.1.0.0 h)

of_none : (side : Side) (occupant : Option (Side × Kind)) → occupant ≡ None → IsOf side occupant → ⊥
of_none side None e h = h
of_none side (Some m) e h = cc e

-- a pawn goes forward to an empty square, and the other goes there too
pub forward_alone : (p : Position) (a b t : ℕ) → piece_at p.pieces a ≡ Some (p.side, Pawn) → piece_at p.pieces b ≡ Some (p.side, Pawn) → MayReach p Pawn a t → MayReach p Pawn b t → file_of a ≡ file_of t → a ≡ b
forward_alone p a b t ma mb ga (inl advance) e = two_steps p.pieces p.side a b t ma mb (stays p a t ga e).1 advance.1
forward_alone p a b t ma mb ga (inr (inl strike)) e = absurd (of_none (other p.side) (piece_at p.pieces t) (stays p a t ga e).0 strike.1)
forward_alone p a b t ma mb ga (inr (inr takes)) e = absurd (no_en_passant p a b t ma takes (stays p a t ga e).1)

-- two pawns leave one file for one square
pub strikes_alone : (p : Position) (a b t : ℕ) → MayReach p Pawn a t → MayReach p Pawn b t → file_of a ≢ file_of t → file_of b ≡ file_of a → a ≡ b
strikes_alone p a b t ga gb h e =
    same_square a b (sym e) (ahead_same p.side (rank_of_square a) (rank_of_square b) (rank_of_square t) 1 (leaves p a t ga h).1 (leaves p b t gb (λ f. h (sym e ∙ f))).1)
