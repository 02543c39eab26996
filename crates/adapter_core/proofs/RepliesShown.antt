-- The texts of a step are whole lines.
use Rattle.std.proofs.Common.{◌≡◌, ℕ, List, [], ◌∷◌, ◌++◌, map, refl, ap, ◌∙◌}
use Rattle.std.specs.List.{flat_map}
use Rattle.line_io.specs.Event.{Event}
use Rattle.cecp_lines.specs.Replies.{Reply, reply_text}
use Rattle.uci_lines.specs.Orders.{Order, uci_order_text}
use Rattle.option_map.specs.FeatureLists.Features.{reply_lines, reply_line}
use Rattle.option_map.specs.WaitingOrders.Held.{held_order_line}
use Rattle.desk_rules.specs.Texts.{order_lines}
use Rattle.adapter_core.specs.Parts.{CoreParts}
use Rattle.adapter_core.specs.Represents.{IsWholeLines, Extends}

shown_each : (ts : List Reply) → reply_lines ts ≡ flat_map (λ line. line ++ 10 ∷ []) (map reply_text ts)
shown_each [] = refl
shown_each (t ∷ ts) = ap (λ l. reply_line t ++ l) (shown_each ts)

ordered_each : (cs : List Order) → order_lines cs ≡ flat_map (λ line. line ++ 10 ∷ []) (map uci_order_text cs)
ordered_each [] = refl
ordered_each (c ∷ cs) = ap (λ l. held_order_line c ++ l) (ordered_each cs)

-- texts of replies and orders are whole lines
shown_are_lines : (ts : List Reply) (text : List ℕ) → text ≡ reply_lines ts → IsWholeLines text
shown_are_lines ts text e = record { lines = map reply_text ts; text_is = e ∙ shown_each ts }

ordered_are_lines : (cs : List Order) (text : List ℕ) → text ≡ order_lines cs → IsWholeLines text
ordered_are_lines cs text e = record { lines = map uci_order_text cs; text_is = e ∙ ordered_each cs }

-- so both texts of a step are
pub iface_lines : (old new : CoreParts) (e : Event) (iface engine : List ℕ) → Extends old new e iface engine → IsWholeLines iface
iface_lines old new e iface engine x = shown_are_lines x.step.replies iface x.iface_is

pub engine_lines : (old new : CoreParts) (e : Event) (iface engine : List ℕ) → Extends old new e iface engine → IsWholeLines engine
engine_lines old new e iface engine x = ordered_are_lines x.step.orders engine x.engine_is
