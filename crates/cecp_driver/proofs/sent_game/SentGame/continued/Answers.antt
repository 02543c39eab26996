use Rattle.cecp_driver.proofs.Moves.{game_officers}
use Rattle.cecp_driver.proofs.sent_game.SentGame.continued.Goals as goal

pub returns-then-is_same_position-clause-officers : goal.returns-then-is_same_position-clause-officers
returns-then-is_same_position-clause-officers c = c.further_moves.ensures.officers (game_officers c.args.game.now c.moves.result.now c.moves.ensures.moves c.moves.ensures.legal)
