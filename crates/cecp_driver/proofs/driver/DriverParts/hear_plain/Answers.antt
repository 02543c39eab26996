use Rattle.std.proofs.Common.{sym, subst}
use Rattle.driver_state_machine.specs.Says.{engine_message_seen}
use Rattle.cecp_driver.specs.DriverInvariant.{DriverInvariant}
use Rattle.cecp_driver.proofs.Lasting.{heard_fits}
use Rattle.cecp_driver.proofs.Acting.{can_act, acted_keeps, plain_done}
use Rattle.cecp_driver.proofs.driver.DriverParts.hear_plain.Goals as goal

pub act-requires : goal.act-requires
act-requires c = can_act c.args.self.now c.said-call.result c.requires.keeps c.requires.up c.requires.down (heard_fits c.args.self.now (engine_message_seen c.args.said.now) c.said-call.result c.said-call.ensures)

pub returns-clause-heard : goal.returns-clause-heard
returns-clause-heard c = plain_done (engine_message_seen c.args.said.now) c.args.self.now c.act.new.self c.said-call.result c.requires.plain c.said-call.ensures c.act.ensures

pub returns-clause-keeps : goal.returns-clause-keeps
returns-clause-keeps c = subst DriverInvariant (sym c.act.ensures) (acted_keeps c.args.self.now c.said-call.result c.requires.keeps (heard_fits c.args.self.now (engine_message_seen c.args.said.now) c.said-call.result c.said-call.ensures))
