-- The orders that wait until the engine may be set up.
use Rattle.std.specs.Prelude.{◌≡◌, ℕ, List, [], ◌∷◌, ◌++◌, filter, length, Contains}
use Rattle.std.specs.Prelude.{Bool, true, false, not, ◌&&◌, nat_le, Option, Some, None}
use Rattle.std.specs.Option.{option_and_then}
use Rattle.std.specs.List.{flat_map, list_all, AllByRecursion}
use Rattle.std.specs.Str.{bytes_eq}
use Rattle.line_io.specs.Lines.{is_feed, line_feed}
use Rattle.uci_lines.specs.Orders.{Order, uci_order_text}
use Rattle.uci_lines.specs.Orders as orders
use Rattle.uci_lines.specs.OrderReading.{order_in, is_writable_order}
use Rattle.option_map.specs.declared.waiting_orders.held.TheConstants.{MOST_ORDERS, MOST_BYTES}

-- the subject of a held order: a game, or the value of an option
pub data Slot : Type 0 where
  Game : Slot
  Setting : (name : List ℕ) → Slot

abbrev pub slot_of : Order → Option Slot
slot_of orders.NewGame = Some Game
slot_of (orders.SetOption name (Some value)) = Some (Setting name)
slot_of order = None

abbrev pub same_slot : Option Slot → Option Slot → Bool
same_slot (Some Game) (Some Game) = true
same_slot (Some (Setting a)) (Some (Setting b)) = bytes_eq a b
same_slot _ _ = false

-- both are for a game, or for the value of the same option
abbrev pub held_for_same : Order → Order → Bool
held_for_same a b = same_slot (slot_of a) (slot_of b)

-- the held orders that stay beside an asked one
abbrev pub held_orders_staying : Order → List Order → List Order
held_orders_staying order held = filter (λ o. not (held_for_same order o)) held

-- An order takes out the held one that is for the same, and is the last.
abbrev pub held_list_with : List Order → Order → List Order
held_list_with held order = held_orders_staying order held ++ order ∷ []

-- the orders that are held once orders were asked for in turn
abbrev pub with_orders : List Order → List Order → List Order
with_orders held [] = held
with_orders held (order ∷ later) = with_orders (held_list_with held order) later

abbrev pub held_order_line : Order → List ℕ
held_order_line order = uci_order_text order ++ line_feed ∷ []

-- the orders as they are written, each with its line feed
abbrev pub held_batch_text : List Order → List ℕ
held_batch_text held = flat_map held_order_line held

-- true if an order may join within both limits
abbrev pub held_order_can_join : List Order → Order → Bool
held_order_can_join held order =
    nat_le (length (held_list_with held order)) MOST_ORDERS
    && nat_le (length (held_batch_text (held_list_with held order))) MOST_BYTES

-- the bytes of a line hold no line feed
abbrev pub HasNoLineFeed : List ℕ → Type 0
HasNoLineFeed line = list_all (λ b. not (is_feed b)) line ≡ true

-- none of the later orders is for the same
abbrev pub none_for : Order → List Order → Bool
none_for order later = list_all (λ asked. not (held_for_same asked order)) later

-- Of what is for a game or for the value of an option exactly the last asked order is held.
abbrev pub HoldsLast : Type 0
HoldsLast =
    (held later : List Order) (asked : Order) → held_for_same asked asked ≡ true
    → none_for asked later ≡ true
    → filter (held_for_same asked) (with_orders held (asked ∷ later)) ≡ asked ∷ []

-- An order that no later one is for the same as stays held.
abbrev pub Stays : Type 0
Stays =
    (held later : List Order) (order : Order) → Contains held order → none_for order later ≡ true
    → Contains (with_orders held later) order

-- Every asked order is held at first.
abbrev pub HoldsAsked : Type 0
HoldsAsked = (held : List Order) (asked : Order) → Contains (held_list_with held asked) asked

-- each of the orders may be written
abbrev pub AreOrders : List Order → Type 0
AreOrders list = AllByRecursion (λ o. is_writable_order o ≡ true) list

-- Orders that join orders may all be written still.
abbrev pub StayOrders : Type 0
StayOrders =
    (held asked : List Order) → AreOrders held → AreOrders asked
    → AreOrders (with_orders held asked)

-- LINES THAT SPELL ORDERS

-- an order that begins a game or sets an option
abbrev pub setup_of : Order → Option Order
setup_of orders.NewGame = Some orders.NewGame
setup_of (orders.SetOption name value) = Some (orders.SetOption name value)
setup_of order = None

-- the order of a line, if it is such an order
abbrev pub setup_spelled : List ℕ → Option Order
setup_spelled line = option_and_then setup_of (order_in line)

-- true if the order that a line spells may join
abbrev pub spelled_joins : List Order → Option Order → Bool
spelled_joins held None = false
spelled_joins held (Some order) = held_order_can_join held order

abbrev pub with_spelled : List Order → Option Order → List Order
with_spelled held None = held
with_spelled held (Some order) = held_list_with held order

-- An order that may be written is the order of its line.
abbrev pub OrderReadsBack : Type 0
OrderReadsBack = (order : Order) → is_writable_order order ≡ true → order_in (uci_order_text order) ≡ Some order
