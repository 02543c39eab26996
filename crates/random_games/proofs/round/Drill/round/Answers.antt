use Rattle.random_games.proofs.Rounds.{played}
use Rattle.random_games.proofs.round.Drill.round.Goals as goal

pub returns-clause-round : goal.returns-clause-round
returns-clause-round c = played c.args.self.now c.renew.new.self c.move_user.new.self c.move_engine.new.self c.renew.ensures.sent c.renew.ensures.stand c.move_user.ensures.moves c.move_engine.ensures.moves
