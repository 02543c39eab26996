use Rattle.random_games.proofs.Drawing.{open_legal}
use Rattle.random_games.proofs.Rounds.{user_moves}
use Rattle.random_games.proofs.round.Drill.move_user.Goals as goal

pub draw-m-requires : goal.draw-m-requires
draw-m-requires c = open_legal c.args.self.now.game c.requires.open

pub returns-clause-moves : goal.returns-clause-moves
returns-clause-moves c =
    user_moves c.args.self.now c.draw-m.new.self c.play.new.self c.draw-m.result c.enter.new.self c.miss.new.self c.draw-m.ensures.drawn c.draw-m.ensures.after c.enter.ensures.sent c.miss.ensures.sent c.play.ensures
