-- A text spells at most one move, and the text of a move spells it.
use Rattle.std.proofs.Common.{◌≡◌, ◌+◌, ◌<◌, ℕ, ⊎_elim, subst, refl, sym, ◌∙◌, arith, Option, Some, None, [], ◌∷◌}
use Rattle.chess_board.specs.declared.board.Kind.{Kind}
use Rattle.chess_board.specs.declared.board.Kind.TheVariants.{Pawn, Knight, Bishop, Rook, Queen, King}
use Rattle.chess_board.specs.declared.board.Move.{Move}
use Rattle.chess_board.specs.declared.board.Side.{Side}
use Rattle.chess_board.specs.Board.{file_of, rank_of_square}
use Rattle.chess_board.specs.Laws.{IsPromotion, Promotes}
use Rattle.chess_board.specs.Text.{SpellsMove, SquareSpells, SpellsOneMove, MoveTextReadsBack, LegalIsWritten, IsOfficer, promotion_text}
use Rattle.chess_board.proofs.Places.{move_same}

one_square : (f r a b : ℕ) → a < 64 → b < 64 → SquareSpells f r a → SquareSpells f r b → a ≡ b
one_square f r a b la lb h k = let h0 = h.0 in let h1 = h.1 in let k0 = k.0 in let k1 = k.1 in omega arith

pub spells-one : SpellsOneMove
spells-one [] a b h k = absurd h
spells-one (f ∷ []) a b h k = absurd h
spells-one (f ∷ r ∷ []) a b h k = absurd h
spells-one (f ∷ r ∷ g ∷ []) a b h k = absurd h
spells-one (f ∷ r ∷ g ∷ s ∷ []) a b h k =
    move_same a b (one_square f r _ _ a.from.on_board b.from.on_board h.0 k.0) (one_square g s _ _ a.to.on_board b.to.on_board h.1 k.1) (h.2 ∙ sym k.2)
spells-one (f ∷ r ∷ g ∷ s ∷ letter ∷ []) a b h k =
    move_same a b (one_square f r _ _ a.from.on_board b.from.on_board h.0 k.0) (one_square g s _ _ a.to.on_board b.to.on_board h.1 k.1) (h.2 ∙ sym k.2)
spells-one (f ∷ r ∷ g ∷ s ∷ letter ∷ more ∷ rest) a b h k = absurd h

reads_back_of : (m : Move) (promotion : Option Kind) → m.promotion ≡ promotion → IsOfficer promotion →
    SpellsMove ((97 + file_of m.from.index) ∷ (49 + rank_of_square m.from.index) ∷ (97 + file_of m.to.index) ∷ (49 + rank_of_square m.to.index) ∷ promotion_text promotion) m
reads_back_of m None e h = ((refl, refl), (refl, refl), e)
reads_back_of m (Some Queen) e h = ((refl, refl), (refl, refl), e, refl)
reads_back_of m (Some Rook) e h = ((refl, refl), (refl, refl), e, refl)
reads_back_of m (Some Bishop) e h = ((refl, refl), (refl, refl), e, refl)
reads_back_of m (Some Knight) e h = ((refl, refl), (refl, refl), e, refl)
reads_back_of m (Some Pawn) e h = absurd h
reads_back_of m (Some King) e h = absurd h

pub reads-back : MoveTextReadsBack
reads-back m h = reads_back_of m m.promotion refl h

-- a text names no pawn and no king, and a legal move promotes to none
pub promotion-officer : (promotion : Option Kind) → IsPromotion promotion → IsOfficer promotion
promotion-officer None h = absurd h
promotion-officer (Some Pawn) h = absurd h
promotion-officer (Some King) h = absurd h
promotion-officer (Some Knight) h = tt
promotion-officer (Some Bishop) h = tt
promotion-officer (Some Rook) h = tt
promotion-officer (Some Queen) h = tt

none-officer : (promotion : Option Kind) → promotion ≡ None → IsOfficer promotion
none-officer promotion e = subst IsOfficer (sym e) tt

pub promotes-officer : (side : Side) (piece : Kind) (to : ℕ) (promotion : Option Kind) → Promotes side piece to promotion → IsOfficer promotion
promotes-officer side Pawn to promotion h = ⊎_elim (λ p. promotion-officer promotion p.1) (λ n. none-officer promotion n.1) h
promotes-officer side Knight to promotion h = none-officer promotion h
promotes-officer side Bishop to promotion h = none-officer promotion h
promotes-officer side Rook to promotion h = none-officer promotion h
promotes-officer side Queen to promotion h = none-officer promotion h
promotes-officer side King to promotion h = none-officer promotion h

pub legal-written : LegalIsWritten
legal-written p m h = promotes-officer p.side h.piece m.to.index m.promotion h.promoted
