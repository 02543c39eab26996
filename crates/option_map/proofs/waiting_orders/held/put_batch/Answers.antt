use Rattle.std.proofs.Common.{◌++◌, ◌∷◌, [], length, List, ap, sym, ◌∙◌, subst}
use Rattle.uci_lines.specs.Orders.{Order, uci_order_text}
use Rattle.option_map.specs.declared.declared_options.keeping.KeptOrder.{KeptOrder}
use Rattle.option_map.specs.DeclaredOptions.Data.{setup_seen}
use Rattle.option_map.specs.WaitingOrders.Held.{held_batch_text}
use Rattle.option_map.specs.WaitingOrders.KeptOrders.{orders_in, KeptOrdersAreIn}
use Rattle.option_map.proofs.FeatureLists.Rooms.{room_here, put_on}
use Rattle.option_map.proofs.waiting_orders.held.put_batch.Goals as goal

pub write_line-requires : goal.write_line-requires
write_line-requires c =
    let old = c.args.old.now in
    let more = held_batch_text (orders_in old c.in-Some.after.now) in
    room_here c.loop-order.out c.args.out.now (uci_order_text (setup_seen c.setup_in.result) ++ 10 ∷ []) more (held_batch_text (orders_in old c.loop-order.others.now)) (held_batch_text (orders_in old c.args.held.now))
    (ap (λ (l : List KeptOrder). held_batch_text (orders_in old l)) c.in-Some.ensures ∙ ap (λ (x : Order). (uci_order_text x ++ 10 ∷ []) ++ more) (sym c.setup_in.ensures)) c.loop-order.invariant.0 c.requires.room

pub loop-order-preserved : goal.loop-order-preserved
loop-order-preserved c =
    let old = c.args.old.now in
    let more = held_batch_text (orders_in old c.in-Some.after.now) in (
      put_on c.loop-order.out c.args.out.now c.write_line.new.out (uci_order_text (setup_seen c.setup_in.result) ++ 10 ∷ []) more (held_batch_text (orders_in old c.loop-order.others.now)) (held_batch_text (orders_in old c.args.held.now))
          c.write_line.ensures (ap (λ (l : List KeptOrder). held_batch_text (orders_in old l)) c.in-Some.ensures ∙ ap (λ (x : Order). (uci_order_text x ++ 10 ∷ []) ++ more) (sym c.setup_in.ensures)) c.loop-order.invariant.0,
      (subst (λ (os : List KeptOrder). KeptOrdersAreIn (length old) os) c.in-Some.ensures c.loop-order.invariant.1).1,
    )
