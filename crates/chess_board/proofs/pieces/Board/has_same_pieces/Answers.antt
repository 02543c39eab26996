use Rattle.std.proofs.Common.{◌≡◌, Bool, length, ap, subst, sym, ◌∙◌}
use Rattle.std.specs.Bool.{Decides}
use Rattle.chess_board.specs.Board.{Pieces}
use Rattle.chess_board.specs.Sets.{sets_of}
use Rattle.chess_board.proofs.Equal.{sets_test, boards-Decides}
use Rattle.chess_board.proofs.Sets.{length-men_of}
use Rattle.chess_board.proofs.pieces.Board.has_same_pieces.Goals as goal

pub returns : goal.returns
returns c =
    let a = c.args.self.now in
    let b = c.args.other.now in
    let size : length a ≡ 64 = ap (λ (pieces : Pieces). length pieces) (sym c.self.view_is) ∙ length-men_of c.self.inside in
    let size' : length b ≡ 64 = ap (λ (pieces : Pieces). length pieces) (sym c.other.view_is) ∙ length-men_of c.other.inside in
    let e : c.eq.result ≡ sets_test (sets_of a) (sets_of b) = c.eq.ensures in
    subst (λ (v : Bool). Decides v (a ≡ b)) (sym e) (boards-Decides a b size size')
