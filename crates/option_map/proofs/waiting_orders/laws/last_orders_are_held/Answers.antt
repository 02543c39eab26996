use Rattle.option_map.proofs.WaitingOrders.Orders.{last_held, stays_held}
use Rattle.option_map.proofs.waiting_orders.laws.last_orders_are_held.Goals as goal

pub returns-clause-last : goal.returns-clause-last
returns-clause-last c = last_held

pub returns-clause-stays : goal.returns-clause-stays
returns-clause-stays c = stays_held
