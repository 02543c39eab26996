use Rattle.option_map.proofs.WaitingOrders.SetPaths.{set_as_strings}
use Rattle.option_map.proofs.waiting_orders.laws.paths_are_set_as_strings.Goals as goal

pub returns : goal.returns
returns c = set_as_strings
