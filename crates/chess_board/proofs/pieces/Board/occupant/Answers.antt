use Rattle.std.proofs.Common.{◌≡◌, sym, ◌∙◌, ap, true, false, refl}
use Rattle.chess_board.specs.Board.{Pieces, piece_at}
use Rattle.chess_board.specs.Reach.{has}
use Rattle.chess_board.specs.Sets.{piece_by_sets}
use Rattle.chess_board.proofs.Sets.{man_at-men_of}
use Rattle.chess_board.proofs.pieces.Board.occupant.Goals as goal

pub returns-then-is_in : goal.returns-then-is_in
returns-then-is_in c =
    let seen : piece_at c.args.self.now c.args.at.index ≡ piece_by_sets c.self.inside c.args.at.index =
    ap (λ (pieces : Pieces). piece_at pieces c.args.at.index) (sym c.self.view_is) ∙ man_at-men_of c.self.inside c.args.at.index c.args.at.on_board in
    let white : has c.self.inside.white c.args.at.index ≡ true = sym c.is_in.ensures ∙ c.if-is_in.true in
    rw seen (rw (white, c.kind_in-kind.ensures) refl)

pub returns-then-is_in-2 : goal.returns-then-is_in-2
returns-then-is_in-2 c =
    let seen : piece_at c.args.self.now c.args.at.index ≡ piece_by_sets c.self.inside c.args.at.index =
    ap (λ (pieces : Pieces). piece_at pieces c.args.at.index) (sym c.self.view_is) ∙ man_at-men_of c.self.inside c.args.at.index c.args.at.on_board in
    let white : has c.self.inside.white c.args.at.index ≡ false = sym c.is_in.ensures ∙ c.if-is_in.false in
    let black : has c.self.inside.black c.args.at.index ≡ true = sym c.is_in-else-is_in.ensures ∙ c.if-is_in-2.true in
    rw seen (rw (white, black, c.kind_in-kind.ensures) refl)

pub returns-else-is_in-2 : goal.returns-else-is_in-2
returns-else-is_in-2 c =
    let seen : piece_at c.args.self.now c.args.at.index ≡ piece_by_sets c.self.inside c.args.at.index =
    ap (λ (pieces : Pieces). piece_at pieces c.args.at.index) (sym c.self.view_is) ∙ man_at-men_of c.self.inside c.args.at.index c.args.at.on_board in
    let white : has c.self.inside.white c.args.at.index ≡ false = sym c.is_in.ensures ∙ c.if-is_in.false in
    let black : has c.self.inside.black c.args.at.index ≡ false = sym c.is_in-else-is_in.ensures ∙ c.if-is_in-2.false in
    rw seen (rw (white, black) refl)
