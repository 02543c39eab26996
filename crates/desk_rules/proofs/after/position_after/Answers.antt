use Rattle.std.proofs.Common.{ap, sym, ◌∙◌}
use Rattle.chess_board.specs.Position.{Position}
use Rattle.game_record.specs.Game.{ply_of, position_after_ply}
use Rattle.game_record.proofs.Replays.{now_after-append}
use Rattle.desk_rules.proofs.after.position_after.Goals as goal

pub returns : goal.returns
returns c =
    c.play.ensures ∙ ap (λ (p : Position). position_after_ply p (ply_of c.args.m)) c.now.ensures
    ∙ sym (now_after-append c.args.game.now.start c.args.game.now.moves (ply_of c.args.m))
