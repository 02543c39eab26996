use Rattle.std.proofs.Common.{◌≤◌, List, length, arith, ap, subst}
use Rattle.std.proofs.lemmas.List.{length-map}
use Rattle.uci_lines.specs.Orders.{Order}
use Rattle.option_map.specs.declared.waiting_orders.held.TheConstants.{MOST_BYTES}
use Rattle.option_map.specs.WaitingOrders.Held.{held_batch_text}
use Rattle.option_map.specs.WaitingOrders.KeptOrders.{kept_order_in}
use Rattle.option_map.proofs.waiting_orders.held.HeldOrders.facts.Goals as goal

pub returns-clause-few : goal.returns-clause-few
returns-clause-few c =
    omega (arith, c.self.invariant.few, ap (λ (l : List Order). length l) c.self.view_is, length-map c.self.inside.orders.items (kept_order_in c.self.inside.texts.text))

pub returns-clause-short : goal.returns-clause-short
returns-clause-short c = subst (λ (l : List Order). length (held_batch_text l) ≤ MOST_BYTES) c.self.view_is c.self.invariant.fits
