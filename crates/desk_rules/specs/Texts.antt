-- The texts of orders, each with its line feed. Those of replies stand with the feature list.
use Rattle.std.specs.Prelude.{ℕ, List}
use Rattle.std.specs.List.{flat_map}
use Rattle.uci_lines.specs.Orders.{Order}
use Rattle.option_map.specs.WaitingOrders.Held.{held_order_line}

abbrev pub order_lines : List Order → List ℕ
order_lines cs = flat_map held_order_line cs
