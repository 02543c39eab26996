use Rattle.cecp_driver.proofs.Puts.{setup_then}
use Rattle.cecp_driver.proofs.actions.write_play.Goals as goal

pub returns-clause-text : goal.returns-clause-text
returns-clause-text c = setup_then c.args.out.now c.set_up.new.out c.write_think.new.out c.args.sent_game.now c.args.game.now c.args.has_usermove _ _ _ c.has_depth.ensures c.set_up.ensures.text c.write_think.ensures.text
