use Rattle.std.proofs.Common.{length, sym, ap, ◌∙◌}
use Rattle.chess_board.specs.declared.board.Side.{Side}
use Rattle.chess_board.specs.Board.{Pieces, piece_at, is_of_side}
use Rattle.chess_board.specs.Sets.{pieces_by_sets}
use Rattle.chess_board.proofs.Sets.{white-has, black-has, length-men_of}
use Rattle.chess_board.proofs.pieces.Board.side_set.Goals as goal

pub returns-in-White-clause-set : goal.returns-in-White-clause-set
returns-in-White-clause-set c s low =
    white-has c.self.inside s c.self.invariant
    ∙ (ap (λ (side : Side). is_of_side side (piece_at (pieces_by_sets c.self.inside) s)) (sym c.in-White.is) ∙ ap (λ (pieces : Pieces). is_of_side c.args.side (piece_at pieces s)) c.self.view_is)

pub returns-in-Black-clause-set : goal.returns-in-Black-clause-set
returns-in-Black-clause-set c s low =
    black-has c.self.inside s c.self.invariant
    ∙ (ap (λ (side : Side). is_of_side side (piece_at (pieces_by_sets c.self.inside) s)) (sym c.in-Black.is) ∙ ap (λ (pieces : Pieces). is_of_side c.args.side (piece_at pieces s)) c.self.view_is)

pub returns-in-White-clause-whole : goal.returns-in-White-clause-whole
returns-in-White-clause-whole c = ap (λ (pieces : Pieces). length pieces) (sym c.self.view_is) ∙ length-men_of c.self.inside

pub returns-in-Black-clause-whole : goal.returns-in-Black-clause-whole
returns-in-Black-clause-whole c = ap (λ (pieces : Pieces). length pieces) (sym c.self.view_is) ∙ length-men_of c.self.inside
