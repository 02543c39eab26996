use Rattle.std.proofs.Common.{◌≡◌, ◌+◌, ◌≤◌, length}
use Rattle.option_map.specs.DeclaredOptions.Data.{setup_seen}
use Rattle.option_map.specs.WaitingOrders.Held.{held_orders_staying, held_batch_text}
use Rattle.option_map.specs.WaitingOrders.KeptOrders.{orders_in, KeptOrdersAreIn}
use Rattle.option_map.specs.declared.waiting_orders.held.TheConstants.{MOST_ORDERS, MOST_BYTES}
use Rattle.option_map.proofs.waiting_orders.held.measure_staying.Given as goal

abbrev pub invariant-loop-order : goal.invariant-loop-order
invariant-loop-order l = record {
  within : KeptOrdersAreIn (length l.texts) l.others;
  count : l.extent.count + length (held_orders_staying (setup_seen l.asked) (orders_in l.texts l.others)) ≡ length (held_orders_staying (setup_seen l.asked) (orders_in l.texts l.fn.held));
  few : l.extent.count + length l.others ≤ MOST_ORDERS;
  size : l.extent.size + length (held_batch_text (held_orders_staying (setup_seen l.asked) (orders_in l.texts l.others))) ≡ length (held_batch_text (held_orders_staying (setup_seen l.asked) (orders_in l.texts l.fn.held)));
  fits : l.extent.size + length (held_batch_text (orders_in l.texts l.others)) ≤ MOST_BYTES;
}

abbrev pub decreases-loop-order : goal.decreases-loop-order
decreases-loop-order l = length l.others
