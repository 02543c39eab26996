-- The pawns that may capture en passant.
use Rattle.std.proofs.Common.{◌≡◌, ◌<◌, ◌+◌, ◌==◌, ℕ, Bool, true, false, ◌&&◌, Some, None, arith, refl, sym, ◌∙◌, eqb}
use Rattle.std.specs.Int.Bits.{bit_and}
use Rattle.std.proofs.lemmas.Bool.{eqb-true, and_parts, false≢true}
use Rattle.chess_board.specs.declared.board.Kind.TheVariants.{Pawn}
use Rattle.chess_board.specs.declared.board.Side.{Side}
use Rattle.chess_board.specs.declared.board.Side.TheVariants.{White, Black}
use Rattle.chess_board.specs.Attack.{is_ahead, is_pawn_strike}
use Rattle.chess_board.specs.Board.{Occupant, piece_at, is_pawn, is_pawn_kind, is_of_side, same_side, is_vacant, other, file_of, rank_of_square, files_apart, gap}
use Rattle.chess_board.specs.Reach.{has, form, shape, IsSetOf}
use Rattle.chess_board.specs.Rules.{fifth_rank, is_at, is_en_passant, is_legal, beside}
use Rattle.chess_board.specs.Position.{Position}
use Rattle.chess_board.proofs.Sets.{has-both}

abbrev takes : Position → ℕ → ℕ → Bool
takes p at from = is_pawn p.side (piece_at p.pieces from) && (is_en_passant p from at && is_legal p from at None)

false_by : (b : Bool) → (b ≡ true → ⊥) → b ≡ false
false_by true f = absurd (f refl)
false_by false f = refl

-- a pawn strikes where a pawn of the other side would strike back
gap_turned : (a b : ℕ) → gap a b ≡ gap b a
gap_turned a b = omega arith

form_by : (side : Side) (f g from at : ℕ) → f ≡ g → ((f == 1) && is_ahead side from at 1) ≡ true → shape (other side) Pawn g at from ≡ true
form_by White f g from at same e = let parts = and_parts (f == 1) (at == from + 1) e in rw (sym same, eqb-true _ _ parts.0, parts.1) refl
form_by Black f g from at same e = let parts = and_parts (f == 1) (from == at + 1) e in rw (sym same, eqb-true _ _ parts.0, parts.1) refl

back : (side : Side) (from at : ℕ) → is_pawn_strike side from at ≡ true → form (other side) Pawn at from ≡ true
back side from at e = form_by side (files_apart from at) (files_apart at from) (rank_of_square from) (rank_of_square at) (gap_turned (file_of from) (file_of at)) e

pawn_of : (side : Side) (occupant : Occupant) → is_pawn side occupant ≡ true → is_of_side side occupant ≡ true
pawn_of side None e = absurd (cc)
pawn_of side (Some occupant) e = (and_parts (same_side occupant.0 side) (is_pawn_kind occupant.1) e).0

strikes : (p : Position) (at from : ℕ) → takes p at from ≡ true → (is_of_side p.side (piece_at p.pieces from) ≡ true) × (is_pawn_strike p.side from at ≡ true)
unfolding is_en_passant
strikes p at from e =
    let rest = and_parts (is_pawn p.side (piece_at p.pieces from)) (is_en_passant p from at && is_legal p from at None) e in
    let passes = (and_parts (is_en_passant p from at) (is_legal p from at None) rest.1).0 in
    let strike = is_pawn_strike p.side from at && is_vacant (piece_at p.pieces at) in
    let parts = and_parts (is_at p.passant at && eqb (rank_of_square from) (fifth_rank p.side)) (strike && is_pawn (other p.side) (piece_at p.pieces (beside from at))) passes in
    (pawn_of p.side (piece_at p.pieces from) rest.0, (and_parts (is_pawn_strike p.side from at) (is_vacant (piece_at p.pieces at)) (and_parts strike (is_pawn (other p.side) (piece_at p.pieces (beside from at))) parts.1).0).0)

-- no piece beyond the squares from which a pawn could come takes
pub none_beyond : (p : Position) (at ways own : ℕ) → IsSetOf (form (other p.side) Pawn at) ways → IsSetOf (λ s. is_of_side p.side (piece_at p.pieces s)) own →
    (s : ℕ) → s < 64 → has (bit_and ways own) s ≡ false → takes p at s ≡ false
none_beyond p at ways own w o s low out = false_by (takes p at s) (λ e.
    let struck = strikes p at s e in
    let inside : (has ways s && has own s) ≡ true = rw (w s low ∙ back p.side s at struck.1, o s low ∙ struck.0) refl in
    false≢true (sym out ∙ has-both ways own s ∙ inside))
