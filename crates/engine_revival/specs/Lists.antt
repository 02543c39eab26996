-- Lists of orders that set up an engine.
use Rattle.std.specs.Prelude.{ℕ, List, [], ◌∷◌, ◌++◌, filter, length}
use Rattle.std.specs.Prelude.{Bool, true, false, not, ◌&&◌, nat_le}
use Rattle.std.specs.List.{flat_map}
use Rattle.engine_revival.specs.Orders.{RevivalOrder, NewGame, Value}
use Rattle.engine_revival.specs.Orders.{Button, are_same_names, revival_order_text}
use Rattle.engine_revival.specs.declared.order_list.TheConstants.{MOST_ORDERS, MOST_BYTES}
use Rattle.line_io.specs.Lines.{line_feed}

-- Both begin a game, or both set the same option: to a value, or without one.
abbrev pub are_for_same : RevivalOrder → RevivalOrder → Bool
are_for_same NewGame NewGame = true
are_for_same (Value a line) (Value b other) = are_same_names a b
are_for_same (Button a line) (Button b other) = are_same_names a b
are_for_same _ _ = false

-- the orders of a list that stay beside one that joins it
abbrev pub revival_orders_staying : RevivalOrder → List RevivalOrder → List RevivalOrder
revival_orders_staying order list = filter (λ o. not (are_for_same order o)) list

-- An order takes the place of one that is for the same, and is the last.
abbrev pub revival_list_with : List RevivalOrder → RevivalOrder → List RevivalOrder
revival_list_with list order = revival_orders_staying order list ++ order ∷ []

abbrev pub revival_order_line : RevivalOrder → List ℕ
revival_order_line order = revival_order_text order ++ line_feed ∷ []

-- the orders as they are written, each with its line feed
abbrev pub revival_batch_text : List RevivalOrder → List ℕ
revival_batch_text list = flat_map revival_order_line list

-- true if an order may join within both limits
abbrev pub revival_order_can_join : List RevivalOrder → RevivalOrder → Bool
revival_order_can_join list order =
    nat_le (length (revival_list_with list order)) MOST_ORDERS
    && nat_le (length (revival_batch_text (revival_list_with list order))) MOST_BYTES
