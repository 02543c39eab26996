use Rattle.cecp_driver.proofs.Puts.{start_none, start_line}
use Rattle.cecp_driver.proofs.sent_game.write_start.Goals as goal

pub returns-then-is_standard-clause-text : goal.returns-then-is_standard-clause-text
returns-then-is_standard-clause-text c = start_none c.args.out.now c.is_standard.result c.args.start.now c.is_standard.ensures c.if-is_standard.true

pub returns-clause-text : goal.returns-clause-text
returns-clause-text c = start_line c.args.out.now c.write_position.new.out c.is_standard.result c.args.start.now c.is_standard.ensures c.if-is_standard.false c.write_position.ensures.text
