use Rattle.cecp_driver.proofs.Puts.{two_lines}
use Rattle.cecp_driver.proofs.actions.write_retreat.Goals as goal

pub returns : goal.returns
returns c = two_lines c.args.out.now c.write_word.new.out c.write_ping.new.out _ _ c.write_word.ensures.text c.write_ping.ensures.text
