use Rattle.std.proofs.Common.{◌≡◌, subst, ◌∙◌}
use Rattle.chess_board.specs.Board.{is_of_side, piece_at}
use Rattle.chess_board.specs.Position.{Position}
use Rattle.chess_board.proofs.setup.Setup.has_own_piece.Goals as goal

pub returns : goal.returns
returns c =
    subst (λ (p : Position). c.is_in.result ≡ is_of_side p.side (piece_at p.pieces c.args.at.index)) c.self.view_is (c.is_in.ensures ∙ c.side_set.ensures.set c.args.at.index c.args.at.on_board)
