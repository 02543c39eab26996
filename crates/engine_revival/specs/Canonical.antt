-- Orders in the one spelling that the bridge writes.
use Rattle.std.specs.Prelude.{◌≡◌, List, ℕ, true, Some}
use Rattle.uci_lines.specs.Orders as own
use Rattle.uci_lines.specs.OrderReading.{is_writable_order}
use Rattle.engine_revival.specs.Orders.{RevivalOrder, revival_order_text}
use Rattle.engine_revival.specs.Asked.{revival_order_in}

-- The line is accepted as an order, and handed on as it came.
pub record IsTakenAsItCame (line : List ℕ) : Type 0 where
  pub order : RevivalOrder
  pub accepted : revival_order_in line ≡ Some order
  pub handed_on : revival_order_text order ≡ line

-- So is each order that may be written, in the spelling in which the bridge writes it.
abbrev pub OwnOrdersAreTaken : Type 0
OwnOrdersAreTaken =
    (order : own.Order) → is_writable_order order ≡ true → IsTakenAsItCame (own.uci_order_text order)
