use Rattle.std.proofs.Common.{◌||◌, Bool, length, sym, ap, ◌∙◌}
use Rattle.chess_board.specs.declared.board.Kind.TheVariants.{Knight}
use Rattle.chess_board.specs.Board.{Pieces, piece_at}
use Rattle.chess_board.specs.Play.{is_minor}
use Rattle.chess_board.specs.Reach.{has}
use Rattle.chess_board.specs.Sets.{is_a, pieces_by_sets}
use Rattle.chess_board.proofs.Sets.{length-men_of, knights-has, bishops-has, has-either, minor_piece}
use Rattle.chess_board.proofs.pieces.Board.minor_set.Goals as goal

pub returns-clause-set : goal.returns-clause-set
returns-clause-set c s low =
    let occupant = piece_at (pieces_by_sets c.self.inside) s in
    has-either c.self.inside.knights c.self.inside.bishops s ∙ ap (λ (v : Bool). v || has c.self.inside.bishops s) (knights-has c.self.inside s c.self.invariant)
    ∙ ap (λ (v : Bool). is_a Knight occupant || v) (bishops-has c.self.inside s c.self.invariant) ∙ minor_piece occupant ∙ ap (λ (pieces : Pieces). is_minor (piece_at pieces s)) c.self.view_is

pub returns-clause-whole : goal.returns-clause-whole
returns-clause-whole c = ap (λ (pieces : Pieces). length pieces) (sym c.self.view_is) ∙ length-men_of c.self.inside
