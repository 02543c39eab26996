use Rattle.std.proofs.Common.{◌≡◌, sym, ◌∙◌}
use Rattle.chess_board.proofs.Equal.{position_test, positions-Decides}
use Rattle.chess_board.proofs.laws.equal_positions.Goals as goal

pub returns : goal.returns
returns c =
    let e : c.eq.result ≡ position_test c.args.a.now c.args.b.now = c.eq.ensures in
    let law = positions-Decides c.args.a.now c.args.b.now c.facts.ensures.position.pieces.whole c.facts-2.ensures.position.pieces.whole in
    (λ h. law.0 (sym e ∙ h), λ h. e ∙ law.1 h)
