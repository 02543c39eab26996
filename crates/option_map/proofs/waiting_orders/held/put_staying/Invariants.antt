use Rattle.std.proofs.Common.{◌≡◌, ◌≤◌, ◌+◌, ◌++◌, length}
use Rattle.option_map.specs.DeclaredOptions.Data.{setup_seen}
use Rattle.option_map.specs.WaitingOrders.Held.{held_orders_staying, held_batch_text}
use Rattle.option_map.specs.WaitingOrders.KeptOrders.{orders_in, KeptOrdersAreIn}
use Rattle.option_map.proofs.waiting_orders.held.put_staying.Given as goal

abbrev pub invariant-loop-order : goal.invariant-loop-order
invariant-loop-order l =
    (orders_in l.texts.text l.orders.items ++ held_orders_staying (setup_seen l.asked) (orders_in l.old l.others) ≡ orders_in l.fn.texts.text l.fn.orders.items ++ held_orders_staying (setup_seen l.asked) (orders_in l.old l.fn.held))
    × KeptOrdersAreIn (length l.old) l.others
    × KeptOrdersAreIn (length l.texts.text) l.orders.items
    × (length l.orders.items + length (held_orders_staying (setup_seen l.asked) (orders_in l.old l.others)) ≡ length l.fn.orders.items + length (held_orders_staying (setup_seen l.asked) (orders_in l.old l.fn.held)))
    × (length l.texts.text + length (held_batch_text (held_orders_staying (setup_seen l.asked) (orders_in l.old l.others))) ≤ length l.fn.texts.text + length (held_batch_text (held_orders_staying (setup_seen l.asked) (orders_in l.old l.fn.held))))
    × (l.texts.room ≡ l.fn.texts.room)

abbrev pub decreases-loop-order : goal.decreases-loop-order
decreases-loop-order l = length l.others
