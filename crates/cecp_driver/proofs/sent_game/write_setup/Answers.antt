use Rattle.cecp_driver.proofs.Moves.{game_officers}
use Rattle.cecp_driver.proofs.Puts.{new_setup}
use Rattle.game_record.specs.Game.{plies_of}
use Rattle.cecp_driver.proofs.sent_game.write_setup.Goals as goal

pub write_played-requires-in-None-clause-officers : goal.write_played-requires-in-None-clause-officers
write_played-requires-in-None-clause-officers c = game_officers c.args.game.now c.moves.result.now c.moves.ensures.moves c.moves.ensures.legal

pub returns-in-None-clause-text : goal.returns-in-None-clause-text
returns-in-None-clause-text c = rw c.in-None.is
    (new_setup c.args.out.now c.write_word-in-None.new.out c.write_word-in-None-2.new.out c.write_word-in-None-3.new.out c.write_start.new.out c.write_played-in-None.new.out c.start.result.now c.args.has_usermove c.args.game.now (plies_of c.moves.result.now)
    c.write_word-in-None.ensures.text c.write_word-in-None-2.ensures.text c.write_word-in-None-3.ensures.text c.write_start.ensures.text c.start.ensures c.write_played-in-None.ensures.text c.moves.ensures.moves)
