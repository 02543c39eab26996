use Rattle.std.proofs.Common.{subst}
use Rattle.chess_board.specs.declared.board.Kind.TheVariants.{Pawn}
use Rattle.chess_board.specs.declared.board.Side.{Side}
use Rattle.chess_board.specs.Board.{piece_at, is_of_side, other}
use Rattle.chess_board.specs.Position.{Position}
use Rattle.chess_board.specs.Reach.{form, IsSetOf}
use Rattle.chess_board.proofs.Capturers.{none_beyond}
use Rattle.chess_board.proofs.play.near_capturers.Goals as goal

pub returns : goal.returns
returns c =
    none_beyond c.args.setup.now c.args.at.index c.ways_of.result c.side_set.result
    (subst (λ (p : Position). IsSetOf (form (other p.side) Pawn c.args.at.index) c.ways_of.result) c.setup.view_is
    (subst (λ (side : Side). IsSetOf (form side Pawn c.args.at.index) c.ways_of.result) c.other.ensures c.ways_of.ensures))
    (subst (λ (p : Position). IsSetOf (λ s. is_of_side p.side (piece_at p.pieces s)) c.side_set.result) c.setup.view_is c.side_set.ensures.set)
