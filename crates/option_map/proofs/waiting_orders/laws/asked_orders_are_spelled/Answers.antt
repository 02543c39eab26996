use Rattle.option_map.proofs.WaitingOrders.Orders.{reads_back, stay_orders, stay_spelled}
use Rattle.option_map.proofs.DeclaredOptions.Usable.{stay_declared}
use Rattle.option_map.proofs.WaitingOrders.Asking.{asked_spelled, switches_spelled}
use Rattle.option_map.proofs.waiting_orders.laws.asked_orders_are_spelled.Goals as goal

pub returns : goal.returns
returns c = record {
  declared = stay_declared;
  asked = asked_spelled;
  switches = switches_spelled;
  reads = reads_back;
  orders = stay_orders;
  held = stay_spelled;
}
