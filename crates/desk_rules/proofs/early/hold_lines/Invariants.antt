use Rattle.std.proofs.Common.{◌≡◌, length}
use Rattle.line_io.specs.Lines.{parts_by_feed}
use Rattle.option_map.specs.WaitingOrders.Held.{with_orders}
use Rattle.desk_rules.specs.Orders.{AllJoin, early_orders}
use Rattle.desk_rules.proofs.early.hold_lines.Given as goal

abbrev pub invariant-loop-line : goal.invariant-loop-line
invariant-loop-line l =
    (with_orders l.held (early_orders l.options (parts_by_feed l.others)) ≡ with_orders l.fn.held (early_orders l.options (parts_by_feed l.text)))
    × AllJoin l.held (early_orders l.options (parts_by_feed l.others))

abbrev pub decreases-loop-line : goal.decreases-loop-line
decreases-loop-line l = length (parts_by_feed l.others)
