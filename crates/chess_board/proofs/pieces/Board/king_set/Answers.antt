use Rattle.std.proofs.Common.{◌≡◌, ◌&&◌, Bool, length, sym, ap, ◌∙◌}
use Rattle.chess_board.specs.declared.board.Kind.TheVariants.{King}
use Rattle.chess_board.specs.Board.{Pieces, piece_at}
use Rattle.chess_board.specs.Reach.{has}
use Rattle.chess_board.specs.Sets.{is_a}
use Rattle.chess_board.proofs.Sets.{length-men_of, kings-has, has-both, king_piece}
use Rattle.chess_board.proofs.pieces.Board.king_set.Goals as goal

pub returns-clause-set : goal.returns-clause-set
returns-clause-set c s low =
    let kings : has c.self.inside.kings s ≡ is_a King (piece_at c.args.self.now s) = kings-has c.self.inside s c.self.invariant ∙ ap (λ (pieces : Pieces). is_a King (piece_at pieces s)) c.self.view_is in
    has-both c.self.inside.kings c.side_set.result s ∙ ap (λ (v : Bool). v && has c.side_set.result s) kings
    ∙ ap (λ (v : Bool). is_a King (piece_at c.args.self.now s) && v) (c.side_set.ensures.set s low) ∙ king_piece c.args.side (piece_at c.args.self.now s)

pub returns-clause-whole : goal.returns-clause-whole
returns-clause-whole c = ap (λ (pieces : Pieces). length pieces) (sym c.self.view_is) ∙ length-men_of c.self.inside
