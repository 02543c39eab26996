use Rattle.std.proofs.Common.{ℕ, nat_le, length, ap, sym, ◌∙◌}
use Rattle.uci_lines.specs.Orders.{uci_order_text}
use Rattle.option_map.specs.declared.waiting_orders.order.SetupOrder.{SetupOrder}
use Rattle.option_map.specs.DeclaredOptions.Data.{setup_seen}
use Rattle.option_map.proofs.WaitingOrders.KeptOrders.{order_sized}
use Rattle.option_map.proofs.waiting_orders.order.SetupOrder.is_within.Goals as goal

pub returns-in-Set : goal.returns-in-Set
returns-in-Set c =
    c.is_within.ensures ∙ ap (λ (n : ℕ). nat_le n c.args.most) (sym (order_sized c.in-Set.asked.name.now c.in-Set.asked.value))
    ∙ ap (λ (s : SetupOrder). nat_le (length (uci_order_text (setup_seen s))) c.args.most) (sym c.in-Set.is)
