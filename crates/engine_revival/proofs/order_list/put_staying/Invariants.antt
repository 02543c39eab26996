use Rattle.std.proofs.Common.{◌≡◌, ◌≤◌, ◌+◌, ◌++◌, length}
use Rattle.line_io.specs.Out.{with}
use Rattle.engine_revival.specs.Orders.{revival_order_of}
use Rattle.engine_revival.specs.Lists.{revival_orders_staying, revival_batch_text}
use Rattle.engine_revival.specs.Kept.{orders_at, SpansAreIn}
use Rattle.engine_revival.specs.declared.order_list.TheConstants.{LIST_ORDERS}
use Rattle.engine_revival.proofs.order_list.put_staying.Given as goal

abbrev pub invariant-loop-span : goal.invariant-loop-span
invariant-loop-span l =
    let asked = revival_order_of l.order in
    record {
      there : SpansAreIn l.old l.others;
      within : SpansAreIn l.texts.text l.lines.items;
      texts : with l.texts (revival_batch_text (revival_orders_staying asked (orders_at l.old l.others))) ≡ with l.fn.texts (revival_batch_text (revival_orders_staying asked (orders_at l.old l.fn.held)));
      orders : orders_at l.texts.text l.lines.items ++ revival_orders_staying asked (orders_at l.old l.others) ≡ orders_at l.fn.texts.text l.fn.lines.items ++ revival_orders_staying asked (orders_at l.old l.fn.held);
      few : length l.lines.items + length l.others ≤ LIST_ORDERS;
      room : length l.texts.text + length (revival_batch_text (orders_at l.old l.others)) ≤ l.texts.room;
    }

abbrev pub decreases-loop-span : goal.decreases-loop-span
decreases-loop-span l = length l.others
