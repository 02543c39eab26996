use Rattle.std.proofs.Common.{sym, ap, subst, ◌∙◌}
use Rattle.chess_board.specs.declared.board.Side.{Side}
use Rattle.chess_board.specs.Board.{piece_at, is_of_side, is_king, other}
use Rattle.chess_board.specs.Position.{Position}
use Rattle.chess_board.specs.Reach.{form, IsSetOf}
use Rattle.chess_board.proofs.Bounded.{ways_none, ways_some}
use Rattle.chess_board.proofs.rules.ways_from.Goals as goal

pub returns-in-None : goal.returns-in-None
returns-in-None c =
    ways_none c.args.setup.now c.args.from.index (sym (ap (λ (p : Position). piece_at p.pieces c.args.from.index) c.setup.view_is) ∙ sym c.occupant.ensures ∙ c.in-None.is)

pub returns-in-Some : goal.returns-in-Some
returns-in-Some c =
    let king = c.king_set-king.result in
    ways_some c.args.setup.now c.in-Some.field-0-0 c.in-Some.kind c.args.from.index c.ways_of-ways.result c.side_set-own.result king c.without-others.result c.without.result c.castling_squares.result
    (sym (ap (λ (p : Position). piece_at p.pieces c.args.from.index) c.setup.view_is) ∙ sym c.occupant.ensures ∙ c.in-Some.is)
    (subst (λ (p : Position). IsSetOf (form p.side c.in-Some.kind c.args.from.index) c.ways_of-ways.result) c.setup.view_is c.ways_of-ways.ensures)
    (subst (λ (p : Position). IsSetOf (λ s. is_of_side p.side (piece_at p.pieces s)) c.side_set-own.result) c.setup.view_is c.side_set-own.ensures.set)
    (subst (λ (p : Position). IsSetOf (λ s. is_king (other p.side) (piece_at p.pieces s)) king) c.setup.view_is
    (subst (λ (side : Side). IsSetOf (λ s. is_king side (piece_at c.setup.inside.board s)) king) c.other.ensures c.king_set-king.ensures.set))
    c.without-others.ensures c.without.ensures c.castling_squares.ensures
