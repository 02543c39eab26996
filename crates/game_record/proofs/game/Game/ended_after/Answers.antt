-- The position after the move stood once more.
use Rattle.std.proofs.Common.{ℕ, ◌+◌, refl, ap, ◌∙◌}
use Rattle.chess_board.specs.Position.{Position}
use Rattle.game_record.specs.Game.{ply_of, position_after_ply}
use Rattle.game_record.proofs.States.{ended_same, ended_more}
use Rattle.game_record.proofs.game.Game.ended_after.Goals as goal

pub returns : goal.returns
returns c =
    let m = ply_of c.args.m in
    let after = c.play-after.ensures ∙ ap (λ (p : Position). position_after_ply p m) c.now.ensures in
    c.ended_by.ensures ∙ ended_same _ _ _ _ _ _ c.state_of.ensures refl c.half.ensures
    ∙ ended_more c.args.self.now m c.play-after.result _ after (ap (λ (n : ℕ). n + 1) c.stood.ensures.value)
