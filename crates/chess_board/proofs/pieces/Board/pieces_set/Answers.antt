use Rattle.std.proofs.Common.{◌||◌, Bool, length, sym, ap, ◌∙◌}
use Rattle.chess_board.specs.declared.board.Side.TheVariants.{White}
use Rattle.chess_board.specs.Board.{Pieces, piece_at, is_of_side}
use Rattle.chess_board.specs.Play.{is_piece}
use Rattle.chess_board.specs.Reach.{has}
use Rattle.chess_board.specs.Sets.{pieces_by_sets}
use Rattle.chess_board.proofs.Sets.{length-men_of, white-has, black-has, has-either, any_piece}
use Rattle.chess_board.proofs.pieces.Board.pieces_set.Goals as goal

pub returns-clause-set : goal.returns-clause-set
returns-clause-set c s low =
    let occupant = piece_at (pieces_by_sets c.self.inside) s in
    has-either c.self.inside.white c.self.inside.black s ∙ ap (λ (v : Bool). v || has c.self.inside.black s) (white-has c.self.inside s c.self.invariant)
    ∙ ap (λ (v : Bool). is_of_side White occupant || v) (black-has c.self.inside s c.self.invariant) ∙ any_piece occupant ∙ ap (λ (pieces : Pieces). is_piece (piece_at pieces s)) c.self.view_is

pub returns-clause-whole : goal.returns-clause-whole
returns-clause-whole c = ap (λ (pieces : Pieces). length pieces) (sym c.self.view_is) ∙ length-men_of c.self.inside
