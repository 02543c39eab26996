use Rattle.engine_revival.proofs.Canonical.{own_orders_are_taken}
use Rattle.engine_revival.proofs.laws.own_orders_are_taken.Goals as goal

pub returns : goal.returns
returns c = own_orders_are_taken
