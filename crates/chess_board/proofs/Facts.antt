-- The consequences of being a position: its parts, put together again, are it, and where its en passant square lies.
use Rattle.std.proofs.Common.{◌≡◌, ◌+◌, ℕ, true, ◌&&◌, refl, ap, subst, sym, Option, Some, None, Ok, arith, leb, eqb, min, max}
use Rattle.std.specs.Prelude.{IfSome, count_by}
use Rattle.std.proofs.lemmas.Bool.{eq-eqb, le-leb, eqb-true, and_parts}
use Rattle.chess_board.specs.declared.board.Side.{Side}
use Rattle.chess_board.specs.declared.board.Side.TheVariants.{White, Black}
use Rattle.chess_board.specs.declared.board.Rights.{Rights}
use Rattle.chess_board.specs.declared.board.Variant.{Variant}
use Rattle.chess_board.specs.declared.board.Wing.{Wing}
use Rattle.chess_board.specs.declared.board.Wing.TheVariants.{HSide, ASide}
use Rattle.chess_board.specs.Board.{Pieces, piece_at, other, is_of_side, is_king, is_pawn, is_vacant, rank_of_square, squares}
use Rattle.chess_board.specs.Attack.{is_pawn_strike, is_ahead}
use Rattle.chess_board.specs.Position.{Position}
use Rattle.chess_board.specs.Rules.{is_en_passant, is_legal, is_at, fifth_rank, sixth_rank, beside}
use Rattle.chess_board.specs.Play.{ArePieces, AreRights, IsPosition, Takeable, can_take, fits_board, fits_kings, right_at_home, rights_at_home, position_if_built, with_legal_en_passant, settled_at, is_supported, top_count}
use Rattle.chess_board.proofs.Below.{some_below-found}

pub board_fits : (pieces : Pieces) → ArePieces pieces → fits_board pieces ≡ true
unfolding fits_board
board_fits pieces are =
    let pawns = are.pawns in
    let white : leb (count_by (is_of_side White) pieces) 16 ≡ true = le-leb _ _ are.white_few in
    let black : leb (count_by (is_of_side Black) pieces) 16 ≡ true = le-leb _ _ are.black_few in
    rw (pawns, white, black) refl

pub kings_fit : (p : Position) → IsPosition p → fits_kings p.pieces p.side ≡ true
unfolding fits_kings
kings_fit p is =
    let white : eqb (count_by (is_king White) p.pieces) 1 ≡ true = eq-eqb _ _ is.pieces.white_king in
    let black : eqb (count_by (is_king Black) p.pieces) 1 ≡ true = eq-eqb _ _ is.pieces.black_king in
    let quiet = is.quiet in
    rw (white, black, quiet) refl

home_same : (variant : Variant) (pieces : Pieces) (side : Side) (wing : Wing) (right : Option ℕ) → is_supported variant pieces side wing right ≡ true → right_at_home variant pieces side wing right ≡ right
home_same variant pieces side wing None h = refl
home_same variant pieces side wing (Some rook) h = rw h refl

abbrev rights_of : Variant → Option ℕ → Option ℕ → Option ℕ → Option ℕ → Rights
rights_of variant a b c d = record { variant = variant; wk = a; wq = b; bk = c; bq = d }

rights_same : (pieces : Pieces) (rights : Rights) → AreRights pieces rights → rights_at_home pieces rights ≡ rights
rights_same pieces rights are =
    let variant = rights.variant in
    let home = right_at_home variant pieces in
    let a : home White HSide rights.wk ≡ rights.wk = home_same variant pieces White HSide rights.wk (are White HSide) in
    let b : home White ASide rights.wq ≡ rights.wq = home_same variant pieces White ASide rights.wq (are White ASide) in
    let c : home Black HSide rights.bk ≡ rights.bk = home_same variant pieces Black HSide rights.bk (are Black HSide) in
    let d : home Black ASide rights.bq ≡ rights.bq = home_same variant pieces Black ASide rights.bq (are Black ASide) in
    let whole : rights_of variant (home White HSide rights.wk) (home White ASide rights.wq) (home Black HSide rights.bk) (home Black ASide rights.bq) ≡ rights_of variant rights.wk rights.wq rights.bk rights.bq = cc in
    whole

settled_same : (p : Position) (o : Option ℕ) → Takeable p o → settled_at p o ≡ p
settled_same p None t = refl
settled_same p (Some at) t = let e = t.1 in rw e refl

abbrev counted : Position → Rights → ℕ → ℕ → Position
counted p rights half full = record p { rights = rights; half = half; full = full }

-- a position is what its own parts make
pub built-same : (p : Position) → IsPosition p → position_if_built p ≡ Ok p
built-same p is =
    let board = board_fits p.pieces is.pieces in
    let kings = kings_fit p is in
    let rights = rights_same p.pieces p.rights is.rights in
    let half : min p.half top_count ≡ p.half = omega (arith, is.half) in
    let full : max 1 (min p.full top_count) ≡ p.full = omega (arith, is.full.0, is.full.1) in
    let same : counted p (rights_at_home p.pieces p.rights) (min p.half top_count) (max 1 (min p.full top_count)) ≡ counted p p.rights p.half p.full = cc in
    let still : settled_at p p.passant ≡ p = settled_same p p.passant is.passant in
    let last : with_legal_en_passant (counted p (rights_at_home p.pieces p.rights) (min p.half top_count) (max 1 (min p.full top_count))) ≡ p =
    subst (λ (q : Position). with_legal_en_passant q ≡ p) (sym same) still in
    rw (board, kings) (ap Ok last)

ahead_rank : (side : Side) (rank to : ℕ) → rank ≡ fifth_rank side → is_ahead side rank to 1 ≡ true → to ≡ sixth_rank side
ahead_rank White rank to five e = let q = eqb-true to (rank + 1) e in omega arith
ahead_rank Black rank to five e = let q = eqb-true rank (to + 1) e in omega arith

en_passant_rank_of : (p : Position) (from at : ℕ) → is_en_passant p from at ≡ true → rank_of_square at ≡ sixth_rank p.side
unfolding is_en_passant
en_passant_rank_of p from at e =
    let strike = is_pawn_strike p.side from at && is_vacant (piece_at p.pieces at) in
    let parts = and_parts (is_at p.passant at && eqb (rank_of_square from) (fifth_rank p.side)) (strike && is_pawn (other p.side) (piece_at p.pieces (beside from at))) e in
    let five = eqb-true _ _ (and_parts (is_at p.passant at) (eqb (rank_of_square from) (fifth_rank p.side)) parts.0).1 in
    let strikes = (and_parts (is_pawn_strike p.side from at) (is_vacant (piece_at p.pieces at)) (and_parts strike (is_pawn (other p.side) (piece_at p.pieces (beside from at))) parts.1).0).0 in
    ahead_rank p.side (rank_of_square from) (rank_of_square at) five (and_parts _ _ strikes).1

take_rank : (p : Position) (at : ℕ) → can_take p at ≡ true → rank_of_square at ≡ sixth_rank p.side
unfolding can_take
take_rank p at e =
    let found = some_below-found squares (λ from. is_pawn p.side (piece_at p.pieces from) && (is_en_passant p from at && is_legal p from at None)) e in
    let from = found.0 in
    let rest = and_parts (is_pawn p.side (piece_at p.pieces from)) (is_en_passant p from at && is_legal p from at None) found.2 in
    en_passant_rank_of p from at (and_parts (is_en_passant p from at) (is_legal p from at None) rest.1).0

-- the en passant square lies on the sixth rank of the side on move
pub en_passant_rank : (p : Position) → IsPosition p → IfSome p.passant (λ at. rank_of_square at ≡ sixth_rank p.side)
en_passant_rank p is = go p.passant is.passant
  where
    go : (o : Option ℕ) → Takeable p o → IfSome o (λ at. rank_of_square at ≡ sixth_rank p.side)
    go None t = tt
    go (Some at) t = take_rank p at t.1
