use Rattle.std.proofs.Common.{◌≤◌, length, List, ap, sym, subst, arith, length-append}
use Rattle.line_io.specs.Out.{Text}
use Rattle.option_map.specs.declared.declared_options.keeping.KeptOrder.{KeptOrder}
use Rattle.option_map.specs.DeclaredOptions.Data.{setup_seen}
use Rattle.option_map.specs.WaitingOrders.KeptOrders.{KeptOrdersAreIn, setup_bytes}
use Rattle.option_map.proofs.WaitingOrders.KeptOrders.{bytes_less, one_more_order, in_more}
use Rattle.option_map.proofs.waiting_orders.held.put.Goals as goal

pub keep-order-requires : goal.keep-order-requires
keep-order-requires c = omega (arith, bytes_less c.args.setup, c.requires.room)

pub returns-clause-orders : goal.returns-clause-orders
returns-clause-orders c =
    one_more_order c.args.texts.now.text (setup_bytes c.args.setup) c.keep-order.new.texts.text c.args.orders.now.items c.push.new.self.items c.keep-order.result (setup_seen c.args.setup)
    (ap (λ (t : Text). t.text) c.keep-order.ensures.texts) c.push.ensures.items c.requires.within c.keep-order.ensures.order

pub returns-clause-within : goal.returns-clause-within
returns-clause-within c =
    let n = length c.args.texts.now.text in
    let m = length c.keep-order.new.texts.text in
    let longer : n ≤ m = omega (arith, ap (λ (t : Text). length t.text) c.keep-order.ensures.texts, length-append c.args.texts.now.text (setup_bytes c.args.setup)) in
    subst (λ (os : List KeptOrder). KeptOrdersAreIn m os) (sym c.push.ensures.items) (in_more n m c.args.orders.now.items c.keep-order.result longer c.requires.within c.keep-order.ensures.within)

pub returns-clause-length : goal.returns-clause-length
returns-clause-length c =
    omega (arith, ap (λ (t : Text). length t.text) c.keep-order.ensures.texts, length-append c.args.texts.now.text (setup_bytes c.args.setup), bytes_less c.args.setup)
