use Rattle.cecp_driver.proofs.Acting.{end_ready, end_keeps}
use Rattle.cecp_driver.proofs.driver.DriverParts.end.Goals as goal

pub act-requires : goal.act-requires
act-requires c = end_ready c.args.self.now c.clear.new.self c.requires c.clear.ensures

pub returns-clause-keeps : goal.returns-clause-keeps
returns-clause-keeps c = end_keeps c.args.self.now c.clear.new.self c.act.new.self c.requires c.clear.ensures c.act.ensures
