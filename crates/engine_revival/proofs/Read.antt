-- The orders that lines spell.
use Rattle.std.proofs.Common.{◌≡◌, ℕ, List, false, Option, Some, sym, ap, ◌∙◌}
use Rattle.std.specs.Option.{option_map}
use Rattle.line_io.specs.Event.{has_feed}
use Rattle.engine_revival.specs.declared.orders.RevivalOrder.{RevivalOrder as CodeOrder}
use Rattle.engine_revival.specs.Orders.{RevivalOrder, revival_order_of}
use Rattle.engine_revival.specs.Asked.{revival_order_in}
use Rattle.engine_revival.proofs.Asked.{asked_text}
use Rattle.engine_revival.specs.Kept.{or_uci, SpellsRevivalOrder}

-- A line from which an order is read spells it.
pub read_spells : (line : List ℕ) (o : Option CodeOrder) (x : CodeOrder) → has_feed line ≡ false → option_map revival_order_of o ≡ revival_order_in line → o ≡ Some x → (revival_order_in line ≡ Some (revival_order_of x)) × SpellsRevivalOrder line × (revival_order_of x ≡ or_uci (revival_order_in line))
read_spells line o x one e f =
    let is : revival_order_in line ≡ Some (revival_order_of x) = sym e ∙ ap (option_map revival_order_of) f in
    (is, record { text = asked_text line (or_uci (revival_order_in line)) (is ∙ ap (λ (w : Option RevivalOrder). Some (or_uci w)) (sym is)); one_line = one }, ap or_uci (sym is))
