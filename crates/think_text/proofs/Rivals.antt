-- A king has no rival, and a pawn goes forward.
use Rattle.std.proofs.Common.{◌≡◌, ◌≢◌, inl, inr, ℕ, zero, suc, ◌<◌, length, set, Bool, true, false, not, ◌&&◌, ◌||◌, eqb, Some, None, refl, sym, ap, ◌∙◌, arith, get_or-set_other, length-set}
use Rattle.std.specs.Prelude.{count_by}
use Rattle.std.proofs.lemmas.Bool.{and_parts}
use Rattle.std.proofs.lemmas.Bool.Decides.{Decides-eqb}
use Rattle.chess_board.specs.declared.board.Kind.TheVariants.{Pawn, King}
use Rattle.chess_board.specs.declared.board.Move.{Move}
use Rattle.chess_board.specs.declared.board.Side.{Side}
use Rattle.chess_board.specs.declared.board.Side.TheVariants.{White, Black}
use Rattle.chess_board.specs.Board.{Occupant, Pieces, piece_at, rank_of_square, is_king, some_below}
use Rattle.chess_board.specs.Laws.{IsLegal, MayReach, Ahead}
use Rattle.chess_board.specs.Play.{ArePieces}
use Rattle.chess_board.specs.Position.{Position}
use Rattle.chess_board.specs.Rules.{is_legal, last_rank}
use Rattle.chess_board.proofs.Below.{some_square-none}
use Rattle.chess_board.proofs.Bools.{same_side-refl}
use Rattle.chess_board.proofs.Equal.{kinds-Decides}
use Rattle.chess_board.proofs.Legal.{legal-law}
use Rattle.chess_board.proofs.Moved.{bit, count-set}
use Rattle.san_text.specs.declared.pieces.RivalSquares.TheVariants.{Board}
use Rattle.san_text.specs.Writing.{same_san_kind, kind_at, is_rival, has_rival}
use Rattle.san_text.proofs.Alone.{kind_of_move}

-- PAWNS

-- a pawn goes one rank or two forward
pub pawn_ahead : (p : Position) (from to : ℕ) → MayReach p Pawn from to → (k : ℕ) × ((0 < k) × Ahead p.side (rank_of_square from) (rank_of_square to) k)
pawn_ahead p from to (inl (_, inl a)) = (1, (omega arith, a.1))
pawn_ahead p from to (inl (_, inr b)) = (2, (omega arith, b.0.1))
pawn_ahead p from to (inr (inl s)) = (1, (omega arith, s.0.1))
pawn_ahead p from to (inr (inr t)) = (1, (omega arith, t.1.0.0.1))

-- so it does not reach its first rank, and one that does not reach its last rank is on neither
pub inner_by : (side : Side) (rank to k : ℕ) → 0 < k → Ahead side rank to k → rank < 8 → to < 8 → to ≢ last_rank side → (0 < to) × (to < 7)
inner_by White rank to k p a r t n = (omega (arith, a, p), omega (arith, n, t))
inner_by Black rank to k p a r t n = (omega (arith, n), omega (arith, a, p, r))

-- KINGS

king_counts : (side : Side) → is_king side (Some (side, King)) ≡ true
king_counts side = rw (same_side-refl side) refl

-- one king stands on one square
pub one_king : (pieces : Pieces) (side : Side) (a b : ℕ) → length pieces ≡ 64 → count_by (is_king side) pieces ≡ 1 → a < 64 → b < 64 → piece_at pieces a ≡ Some (side, King) → piece_at pieces b ≡ Some (side, King) → b ≢ a → ⊥
one_king pieces side a b whole one la lb ma mb d =
    let q = is_king side in
    let first = count-set q pieces a None (omega (arith, whole, la)) in
    let left : piece_at (set pieces a None) b ≡ Some (side, King) = get_or-set_other pieces a b None None d ∙ mb in
    let second = count-set q (set pieces a None) b None (omega (arith, length-set pieces a None, whole, lb)) in
    let here : bit (q (piece_at pieces a)) ≡ 1 = ap (λ (m : Occupant). bit (q m)) ma ∙ ap bit (king_counts side) in
    let there : bit (q (piece_at (set pieces a None) b)) ≡ 1 = ap (λ (m : Occupant). bit (q m)) left ∙ ap bit (king_counts side) in
    absurd (omega (arith, first, second, here, there, one))

kings_are : (pieces : Pieces) (side : Side) → ArePieces pieces → count_by (is_king side) pieces ≡ 1
kings_are pieces White are = are.white_king
kings_are pieces Black are = are.black_king

-- a test that holds nowhere
nowhere : (n : ℕ) (test : ℕ → Bool) → ((k : ℕ) → k < n → test k ≡ false) → some_below n test ≡ false
nowhere zero test h = refl
nowhere (suc n) test h = by (test n) (some_below n test) (h n (omega arith)) (nowhere n test (λ k l. h k (omega (arith, l)))) where
  by : (a b : Bool) → a ≡ false → b ≡ false → (a || b) ≡ false
  by false b e f = f
  by true b e f = cc

rival_by : (p : Position) (m : Move) (s : ℕ) (b : Bool) → ArePieces p.pieces → IsLegal p m.from.index m.to.index m.promotion → kind_at p m.from.index ≡ King → s < 64 → is_rival p m s ≡ b → b ≡ false
rival_by p m s false are h k l e = refl
rival_by p m s true are h k l e =
    let both = and_parts (not (eqb s m.from.index) && same_san_kind (kind_at p s) (kind_at p m.from.index)) (is_legal p s m.to.index m.promotion) e in
    let prefix = and_parts (not (eqb s m.from.index)) (same_san_kind (kind_at p s) (kind_at p m.from.index)) both.0 in
    let other = (legal-law p s m.to.index m.promotion).0 both.1 in
    let mine : kind_at p s ≡ King = (kinds-Decides (kind_at p s) (kind_at p m.from.index)).0 prefix.1 ∙ k in
    let theirs = sym (kind_of_move p s m.to.index m.promotion other) ∙ mine in
    let his = sym (kind_of_move p m.from.index m.to.index m.promotion h) ∙ k in
    let a : piece_at p.pieces m.from.index ≡ Some (p.side, King) = h.occupant ∙ ap (λ x. Some (p.side, x)) his in
    let b : piece_at p.pieces s ≡ Some (p.side, King) = other.occupant ∙ ap (λ x. Some (p.side, x)) theirs in
    let apart : s ≢ m.from.index = λ same. (let t : eqb s m.from.index ≡ true = (Decides-eqb s m.from.index).1 same in let f : not (eqb s m.from.index) ≡ false = ap not t in cc (prefix.0, f)) in
    absurd (one_king p.pieces p.side m.from.index s are.whole (kings_are p.pieces p.side are) m.from.on_board l a b apart)

pub king_alone : (p : Position) (m : Move) → ArePieces p.pieces → IsLegal p m.from.index m.to.index m.promotion → kind_at p m.from.index ≡ King → has_rival p m Board ≡ false
king_alone p m are h k = some_square-none (λ s. true && is_rival p m s) 64 (omega arith) (nowhere 64 (λ s. true && is_rival p m s) (λ s l. rival_by p m s (is_rival p m s) are h k l refl))
