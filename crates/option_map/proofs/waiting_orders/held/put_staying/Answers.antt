use Rattle.std.proofs.Common.{◌≡◌, ◌++◌, ◌∷◌, [], length, List, ap, sym, ◌∙◌, subst, arith, append_assoc, false}
use Rattle.uci_lines.specs.Orders.{Order, uci_order_text}
use Rattle.option_map.specs.WaitingOrders.Held.{held_for_same}
use Rattle.option_map.specs.declared.declared_options.keeping.KeptOrder.{KeptOrder}
use Rattle.option_map.specs.DeclaredOptions.Data.{setup_seen}
use Rattle.option_map.specs.WaitingOrders.Held.{held_orders_staying, held_batch_text}
use Rattle.option_map.specs.WaitingOrders.KeptOrders.{kept_order_in, orders_in, KeptOrdersAreIn}
use Rattle.option_map.proofs.WaitingOrders.KeptOrders.{stays_here, batch_first}
use Rattle.option_map.proofs.waiting_orders.held.put_staying.Goals as goal

pub put-requires-clause-few : goal.put-requires-clause-few
put-requires-clause-few c =
    let asked = setup_seen c.args.asked.now in
    let old = c.args.old.now in
    let same : held_for_same asked (kept_order_in old c.in-Some.order) ≡ false = ap (held_for_same asked) (sym c.setup_in-setup.ensures) ∙ sym c.is_for_same.ensures ∙ c.if-is_for_same.false in
    omega (arith, ap (λ (l : List Order). length l) (stays_here asked old c.loop-order.others.now c.in-Some.after.now c.in-Some.order c.in-Some.ensures same), c.loop-order.invariant.3, c.requires.few)

pub put-requires-clause-room : goal.put-requires-clause-room
put-requires-clause-room c =
    let asked = setup_seen c.args.asked.now in
    let old = c.args.old.now in
    let same : held_for_same asked (kept_order_in old c.in-Some.order) ≡ false = ap (held_for_same asked) (sym c.setup_in-setup.ensures) ∙ sym c.is_for_same.ensures ∙ c.if-is_for_same.false in
    omega (
      arith,
      ap (λ (l : List Order). length (held_batch_text l)) (stays_here asked old c.loop-order.others.now c.in-Some.after.now c.in-Some.order c.in-Some.ensures same),
      batch_first (kept_order_in old c.in-Some.order) (held_orders_staying asked (orders_in old c.in-Some.after.now)),
      c.loop-order.invariant.4,
      c.loop-order.invariant.5,
      c.requires.room,
      ap (λ (x : Order). length (uci_order_text x)) c.setup_in-setup.ensures,
    )

pub loop-order-preserved : goal.loop-order-preserved
loop-order-preserved c =
    let asked = setup_seen c.args.asked.now in
    let old = c.args.old.now in
    let same : held_for_same asked (kept_order_in old c.in-Some.order) ≡ false = ap (held_for_same asked) (sym c.setup_in-setup.ensures) ∙ sym c.is_for_same.ensures ∙ c.if-is_for_same.false in
    let here = stays_here asked old c.loop-order.others.now c.in-Some.after.now c.in-Some.order c.in-Some.ensures same in
    let rest = held_orders_staying asked (orders_in old c.in-Some.after.now) in
    let before = orders_in c.loop-order.texts.text c.loop-order.orders.items in
    let line = ap (λ (x : Order). length (uci_order_text x)) c.setup_in-setup.ensures in (
      ap (λ (l : List Order). l ++ rest) c.put.ensures.orders
          ∙ append_assoc before (setup_seen c.setup_in-setup.result ∷ []) rest
          ∙ ap (λ (x : Order). before ++ x ∷ rest) c.setup_in-setup.ensures
          ∙ ap (λ (l : List Order). before ++ l) (sym here)
          ∙ c.loop-order.invariant.0,
      (subst (λ (os : List KeptOrder). KeptOrdersAreIn (length old) os) c.in-Some.ensures c.loop-order.invariant.1).1,
      c.put.ensures.within,
      omega (arith, c.put.ensures.few, ap (λ (l : List Order). length l) here, c.loop-order.invariant.3),
      omega (arith, c.put.ensures.length, line, ap (λ (l : List Order). length (held_batch_text l)) here, batch_first (kept_order_in old c.in-Some.order) rest, c.loop-order.invariant.4),
      c.put.ensures.room ∙ c.loop-order.invariant.5,
    )
