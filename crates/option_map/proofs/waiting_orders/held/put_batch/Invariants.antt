use Rattle.std.proofs.Common.{◌≡◌, length}
use Rattle.line_io.specs.Out.{with}
use Rattle.option_map.specs.WaitingOrders.Held.{held_batch_text}
use Rattle.option_map.specs.WaitingOrders.KeptOrders.{orders_in, KeptOrdersAreIn}
use Rattle.option_map.proofs.waiting_orders.held.put_batch.Given as goal

abbrev pub invariant-loop-order : goal.invariant-loop-order
invariant-loop-order l =
    (with l.out (held_batch_text (orders_in l.old l.others)) ≡ with l.fn.out (held_batch_text (orders_in l.old l.fn.held)))
    × KeptOrdersAreIn (length l.old) l.others

abbrev pub decreases-loop-order : goal.decreases-loop-order
decreases-loop-order l = length l.others
