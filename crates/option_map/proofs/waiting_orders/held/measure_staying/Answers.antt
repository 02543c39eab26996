use Rattle.std.proofs.Common.{◌≡◌, length, List, true, false, ap, sym, ◌∙◌, subst, arith}
use Rattle.uci_lines.specs.Orders.{Order, uci_order_text}
use Rattle.option_map.specs.declared.declared_options.keeping.KeptOrder.{KeptOrder}
use Rattle.option_map.specs.DeclaredOptions.Data.{setup_seen}
use Rattle.option_map.specs.WaitingOrders.Held.{held_for_same, held_orders_staying, held_batch_text}
use Rattle.option_map.specs.WaitingOrders.KeptOrders.{kept_order_in, orders_in, KeptOrdersAreIn}
use Rattle.option_map.proofs.WaitingOrders.KeptOrders.{stays_here, gives_way, batch_first}
use Rattle.option_map.proofs.waiting_orders.held.measure_staying.Goals as goal

pub loop-order-preserved-then-is_for_same : goal.loop-order-preserved-then-is_for_same
loop-order-preserved-then-is_for_same c =
    let asked = setup_seen c.args.asked.now in
    let texts = c.args.texts.now in
    let same : held_for_same asked (kept_order_in texts c.in-Some.order) ≡ true = ap (held_for_same asked) (sym c.setup_in-setup.ensures) ∙ sym c.is_for_same.ensures ∙ c.if-is_for_same.true in
    let gone = gives_way asked texts c.loop-order.others.now c.in-Some.after.now c.in-Some.order c.in-Some.ensures same in
    let all = ap (λ (l : List KeptOrder). length (held_batch_text (orders_in texts l))) c.in-Some.ensures in
    record {
      within = (subst (λ (os : List KeptOrder). KeptOrdersAreIn (length texts) os) c.in-Some.ensures c.loop-order.invariant.within).1;
      count = omega (arith, ap (λ (l : List Order). length l) gone, c.loop-order.invariant.count);
      few = omega (arith, ap (λ (l : List KeptOrder). length l) c.in-Some.ensures, c.loop-order.invariant.few);
      size = omega (arith, ap (λ (l : List Order). length (held_batch_text l)) gone, c.loop-order.invariant.size);
      fits = omega (arith, all, batch_first (kept_order_in texts c.in-Some.order) (orders_in texts c.in-Some.after.now), c.loop-order.invariant.fits);
    }

pub size-requires : goal.size-requires
size-requires c =
    let texts = c.args.texts.now in
    omega (
      arith,
      ap (λ (l : List KeptOrder). length (held_batch_text (orders_in texts l))) c.in-Some.ensures,
      batch_first (kept_order_in texts c.in-Some.order) (orders_in texts c.in-Some.after.now),
      ap (λ (x : Order). length (uci_order_text x)) c.setup_in-setup.ensures,
      c.loop-order.invariant.fits,
    )

pub overflow_add-extent-in-Some : goal.overflow_add-extent-in-Some
overflow_add-extent-in-Some c =
    let texts = c.args.texts.now in
    omega (
      arith,
      c.size.ensures,
      ap (λ (l : List KeptOrder). length (held_batch_text (orders_in texts l))) c.in-Some.ensures,
      batch_first (kept_order_in texts c.in-Some.order) (orders_in texts c.in-Some.after.now),
      ap (λ (x : Order). length (uci_order_text x)) c.setup_in-setup.ensures,
      c.loop-order.invariant.fits,
    )

pub overflow_add-extent-in-Some-2 : goal.overflow_add-extent-in-Some-2
overflow_add-extent-in-Some-2 c =
    let texts = c.args.texts.now in
    omega (
      arith,
      c.size.ensures,
      ap (λ (l : List KeptOrder). length (held_batch_text (orders_in texts l))) c.in-Some.ensures,
      batch_first (kept_order_in texts c.in-Some.order) (orders_in texts c.in-Some.after.now),
      ap (λ (x : Order). length (uci_order_text x)) c.setup_in-setup.ensures,
      c.loop-order.invariant.fits,
    )

pub loop-order-preserved : goal.loop-order-preserved
loop-order-preserved c =
    let asked = setup_seen c.args.asked.now in
    let texts = c.args.texts.now in
    let same : held_for_same asked (kept_order_in texts c.in-Some.order) ≡ false = ap (held_for_same asked) (sym c.setup_in-setup.ensures) ∙ sym c.is_for_same.ensures ∙ c.if-is_for_same.false in
    let here = stays_here asked texts c.loop-order.others.now c.in-Some.after.now c.in-Some.order c.in-Some.ensures same in
    let all = ap (λ (l : List KeptOrder). length (held_batch_text (orders_in texts l))) c.in-Some.ensures in
    let line = ap (λ (x : Order). length (uci_order_text x)) c.setup_in-setup.ensures in
    record {
      within = (subst (λ (os : List KeptOrder). KeptOrdersAreIn (length texts) os) c.in-Some.ensures c.loop-order.invariant.within).1;
      count = omega (arith, ap (λ (l : List Order). length l) here, c.loop-order.invariant.count);
      few = omega (arith, ap (λ (l : List KeptOrder). length l) c.in-Some.ensures, c.loop-order.invariant.few);
      size =
          omega (
            arith,
            c.size.ensures,
            line,
            ap (λ (l : List Order). length (held_batch_text l)) here,
            batch_first (kept_order_in texts c.in-Some.order) (held_orders_staying asked (orders_in texts c.in-Some.after.now)),
            c.loop-order.invariant.size,
          );
      fits = omega (arith, c.size.ensures, line, all, batch_first (kept_order_in texts c.in-Some.order) (orders_in texts c.in-Some.after.now), c.loop-order.invariant.fits);
    }
