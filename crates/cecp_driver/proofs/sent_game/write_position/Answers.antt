use Rattle.cecp_driver.proofs.Puts.{set_line}
use Rattle.cecp_driver.proofs.sent_game.write_position.Goals as goal

pub returns-clause-text : goal.returns-clause-text
returns-clause-text c = set_line c.args.out.now c.put.new.self c.put-2.new.self c.put-3.new.self c.as_slice.result.now c.write_fen.result.items _ c.as_slice.ensures.value c.write_fen.ensures.text c.put.ensures c.put-2.ensures c.put-3.ensures
