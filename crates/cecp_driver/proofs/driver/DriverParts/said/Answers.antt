use Rattle.std.proofs.Common.{ap}
use Rattle.driver_state_machine.specs.Says.{engine_message_seen}
use Rattle.cecp_driver.proofs.Acting.{heard_move}
use Rattle.cecp_driver.proofs.driver.DriverParts.said.Goals as goal

pub returns-in-Move : goal.returns-in-Move
returns-in-Move c = heard_move c.args.self.now (engine_message_seen c.args.said.now) c.now.result.now _ c.shown_move.result c.now.ensures (ap engine_message_seen c.in-Move.is) c.shown_move.ensures
