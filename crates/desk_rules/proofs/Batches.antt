-- The lines of a batch.
use Rattle.std.proofs.Common.{◌≡◌, ℕ, List, [], ◌∷◌, ◌++◌, length, refl, ap, ◌∙◌, append_assoc}
use Rattle.uci_lines.specs.Orders.{Order, IsReady, uci_order_text}
use Rattle.option_map.specs.WaitingOrders.Held.{held_order_line, held_batch_text}
use Rattle.desk_rules.specs.Texts.{order_lines}

pub ready_size : length (held_order_line IsReady) ≡ 8
unfolding uci_order_text
ready_size = refl

pub batch_lines : (os : List Order) → held_batch_text os ++ held_order_line IsReady ≡ order_lines (os ++ IsReady ∷ [])
unfolding uci_order_text
batch_lines [] = refl
batch_lines (o ∷ os) = append_assoc (held_order_line o) (held_batch_text os) (held_order_line IsReady) ∙ ap (λ (l : List ℕ). held_order_line o ++ l) (batch_lines os)
