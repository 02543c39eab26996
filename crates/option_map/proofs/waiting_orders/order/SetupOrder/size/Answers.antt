use Rattle.std.proofs.Common.{length, ap, sym, ◌∙◌, arith}
use Rattle.uci_lines.specs.Orders.{uci_order_text}
use Rattle.option_map.specs.declared.waiting_orders.order.SetupOrder.{SetupOrder}
use Rattle.option_map.specs.DeclaredOptions.Data.{setup_seen}
use Rattle.option_map.proofs.WaitingOrders.KeptOrders.{order_sized}
use Rattle.option_map.proofs.waiting_orders.order.SetupOrder.size.Goals as goal

pub size-requires : goal.size-requires
size-requires c =
    omega (arith, c.requires, ap (λ (s : SetupOrder). length (uci_order_text (setup_seen s))) c.in-Set.is, order_sized c.in-Set.asked.name.now c.in-Set.asked.value)

pub returns-in-Set : goal.returns-in-Set
returns-in-Set c =
    c.size.ensures ∙ sym (order_sized c.in-Set.asked.name.now c.in-Set.asked.value)
    ∙ ap (λ (s : SetupOrder). length (uci_order_text (setup_seen s))) (sym c.in-Set.is)
