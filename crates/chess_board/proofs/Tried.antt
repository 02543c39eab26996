-- The setup after a move, if it is legal.
use Rattle.std.proofs.Common.{◌≡◌, Bool, true, false, cond, IsTrue, ◌↔◌, Some, None, refl, sym, ap, ◌∙◌}
use Rattle.chess_board.specs.declared.board.Kind.{Kind}
use Rattle.chess_board.specs.declared.board.Move.{Move}
use Rattle.chess_board.specs.declared.board.Side.{Side}
use Rattle.chess_board.specs.Attack.{is_checked}
use Rattle.chess_board.specs.Board.{Pieces, piece_at}
use Rattle.chess_board.specs.Laws.{IsLegal}
use Rattle.chess_board.specs.Place.{legal, after_if_legal}
use Rattle.chess_board.specs.Play.{follow, with_legal_en_passant, position_after}
use Rattle.chess_board.specs.Position.{Position}
use Rattle.chess_board.specs.Rules.{pieces_after, promotes, reaches_to}
use Rattle.chess_board.proofs.Bounded.{legal_reach}
use Rattle.chess_board.proofs.Legal.{legal-law}

-- a test for checks, on the same pieces
pub checked_same : (r b : Bool) (pieces others : Pieces) (side owner : Side) → r ≡ is_checked pieces side → pieces ≡ others → side ≡ owner → r ≡ b → is_checked others owner ≡ b
checked_same r b pieces others side owner e f g h = sym (ap (is_checked others) g) ∙ sym (ap (λ (xs : Pieces). is_checked xs side) f) ∙ sym e ∙ h

pub left_none : (p : Position) (m : Move) → legal p m ≡ false → None ≡ after_if_legal p m
left_none p m e = rw e refl

-- a piece that may go so, and does not become what it must, or leaves its king attacked
pub left_unfit : (p : Position) (m : Move) (piece : Kind) → piece_at p.pieces m.from.index ≡ Some (p.side, piece) → reaches_to p m.from.index m.to.index ≡ true
    → promotes p.side piece m.to.index m.promotion ≡ false → None ≡ after_if_legal p m
left_unfit p m piece occupant reach unfit = left_none p m (legal_reach p p.side piece m.from.index m.to.index m.promotion occupant reach ∙ rw unfit refl)

pub left_unsafe : (p : Position) (m : Move) (piece : Kind) → piece_at p.pieces m.from.index ≡ Some (p.side, piece) → reaches_to p m.from.index m.to.index ≡ true
    → promotes p.side piece m.to.index m.promotion ≡ true → is_checked (pieces_after p piece m.from.index m.to.index m.promotion) p.side ≡ true → None ≡ after_if_legal p m
left_unsafe p m piece occupant reach fit checked = left_none p m (legal_reach p p.side piece m.from.index m.to.index m.promotion occupant reach ∙ rw (fit, checked) refl)

left_by : (p : Position) (m : Move) (piece : Kind) (left : Position) → legal p m ≡ true → piece_at p.pieces m.from.index ≡ Some (p.side, piece)
    → left ≡ with_legal_en_passant (follow p piece m.from.index m.to.index m.promotion) → Some left ≡ after_if_legal p m
unfolding position_after
left_by p m piece left e occupant is = rw (e, occupant) (ap (λ (q : Position). Some q) is)

pub left_some : (p : Position) (m : Move) (piece : Kind) (left : Position) → piece_at p.pieces m.from.index ≡ Some (p.side, piece) → reaches_to p m.from.index m.to.index ≡ true
    → promotes p.side piece m.to.index m.promotion ≡ true → is_checked (pieces_after p piece m.from.index m.to.index m.promotion) p.side ≡ false
    → left ≡ with_legal_en_passant (follow p piece m.from.index m.to.index m.promotion) → Some left ≡ after_if_legal p m
left_some p m piece left occupant reach fit quiet is =
    left_by p m piece left (legal_reach p p.side piece m.from.index m.to.index m.promotion occupant reach ∙ rw (fit, quiet) refl) occupant is

-- what is left, and that the move is then legal
left_step : (b : Bool) (P : Type 0) (left after : Position) → (IsTrue b ↔ P) → Some left ≡ cond b (Some after) None → P × (left ≡ after)
left_step true P left after law e = (law.0 refl, cc)
left_step false P left after law e = absurd (cc)

pub left_is : (p : Position) (m : Move) (left : Position) → Some left ≡ after_if_legal p m
    → IsLegal p m.from.index m.to.index m.promotion × (left ≡ position_after p m.from.index m.to.index m.promotion)
left_is p m left e = left_step (legal p m) _ left (position_after p m.from.index m.to.index m.promotion) (legal-law p m.from.index m.to.index m.promotion) e

not_step : (b : Bool) (P : Type 0) (after : Position) → (IsTrue b ↔ P) → None ≡ cond b (Some after) None → P → ⊥
not_step true P after law e h = absurd (cc)
not_step false P after law e h = let no : false ≡ true = law.1 h in absurd (cc)

pub left_not : (p : Position) (m : Move) → None ≡ after_if_legal p m → IsLegal p m.from.index m.to.index m.promotion → ⊥
left_not p m e = not_step (legal p m) _ (position_after p m.from.index m.to.index m.promotion) (legal-law p m.from.index m.to.index m.promotion) e
