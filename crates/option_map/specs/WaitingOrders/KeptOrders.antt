-- The form in which held orders are kept: numbers, and parts of one buffer of texts.
use Rattle.std.specs.Prelude.{◌≡◌, ℕ, ◌≤◌, List, [], ◌++◌, map, length, Option, Some, None}
use Rattle.std.specs.Fmt.{signed_decimal}
use Rattle.std.specs.List.{AllByRecursion}
use Rattle.line_io.specs.Out.{Text as Buffer}
use Rattle.uci_lines.specs.Orders.{Order, NewGame, SetOption}
use Rattle.option_map.specs.declared.waiting_orders.order.OptionValue.{OptionValue}
use Rattle.option_map.specs.declared.waiting_orders.order.OptionValue.TheVariants as value
use Rattle.option_map.specs.declared.waiting_orders.order.SetupOrder.{SetupOrder}
use Rattle.option_map.specs.declared.waiting_orders.order.SetupOrder.TheVariants as setup
use Rattle.option_map.specs.declared.declared_options.keeping.KeptValue.{KeptValue}
use Rattle.option_map.specs.declared.declared_options.keeping.KeptValue.TheVariants.{Nothing, Text, Number}
use Rattle.option_map.specs.declared.declared_options.keeping.KeptOrder.{KeptOrder}
use Rattle.option_map.specs.declared.declared_options.keeping.KeptOrder.TheVariants as kept
use Rattle.option_map.specs.declared.waiting_orders.held.TheConstants.{MOST_ORDERS, MOST_BYTES}
use Rattle.option_map.specs.DeclaredOptions.Stored.{text_at, IsSpanIn}
use Rattle.option_map.specs.WaitingOrders.Held.{held_batch_text}

abbrev pub value_in : List ℕ → KeptValue → Option (List ℕ)
value_in texts Nothing = None
value_in texts (Text part) = Some (text_at texts part)
value_in texts (Number n) = Some (signed_decimal n)

abbrev pub kept_order_in : List ℕ → KeptOrder → Order
kept_order_in texts kept.NewGame = NewGame
kept_order_in texts (kept.Set name value) = SetOption (text_at texts name) (value_in texts value)

abbrev pub orders_in : List ℕ → List KeptOrder → List Order
orders_in texts list = map (kept_order_in texts) list

abbrev pub IsValueIn : ℕ → KeptValue → Type 0
IsValueIn n Nothing = Unit {0}
IsValueIn n (Text part) = IsSpanIn n part
IsValueIn n (Number x) = Unit {0}

-- the texts of an order lie within so many bytes
abbrev pub IsOrderIn : ℕ → KeptOrder → Type 0
IsOrderIn n kept.NewGame = Unit {0}
IsOrderIn n (kept.Set name value) = IsSpanIn n name × IsValueIn n value

abbrev pub KeptOrdersAreIn : ℕ → List KeptOrder → Type 0
KeptOrdersAreIn n list = AllByRecursion (IsOrderIn n) list

-- the part that is kept of the texts of an order
abbrev pub value_bytes : Option OptionValue → List ℕ
value_bytes None = []
value_bytes (Some (value.Text text)) = text.now
value_bytes (Some (value.Number n)) = []

abbrev pub setup_bytes : SetupOrder → List ℕ
setup_bytes setup.NewGame = []
setup_bytes (setup.Set asked) = asked.name.now ++ value_bytes asked.value

-- the invariant of the buffer of texts, the buffer beside it and the orders
pub record KeptOrdersInvariant (texts beside : Buffer) (orders : List KeptOrder) : Type 0 where
  pub within : KeptOrdersAreIn (length texts.text) orders
  pub few : length orders ≤ MOST_ORDERS
  pub fits : length (held_batch_text (orders_in texts.text orders)) ≤ MOST_BYTES
  pub room : texts.room ≡ MOST_BYTES
  pub other : beside.room ≡ MOST_BYTES
