-- Orders that set up the engine, as data.
use Rattle.std.specs.Prelude.{ℕ, ◌+◌, length, List, Option, Some, None, Result as Answer, Ok, Err}
use Rattle.std.specs.Fmt.{signed_decimal}
use Rattle.std.specs.Option.{option_map}
use Rattle.uci_lines.specs.Orders.{Order, NewGame, SetOption}
use Rattle.option_map.specs.declared.declared_options.fault.OptionFault.{OptionFault}
use Rattle.option_map.specs.declared.waiting_orders.order.TheConstants.{BUTTON_BYTES, SETTING_BYTES}
use Rattle.option_map.specs.declared.waiting_orders.order.OptionValue.{OptionValue}
use Rattle.option_map.specs.declared.waiting_orders.order.OptionValue.TheVariants.{Text, Number}
use Rattle.option_map.specs.declared.waiting_orders.order.AskedOption.{AskedOption}
use Rattle.option_map.specs.declared.waiting_orders.order.SetupOrder.{SetupOrder}
use Rattle.option_map.specs.declared.waiting_orders.order.SetupOrder.TheVariants as setup

abbrev pub value_seen : OptionValue → List ℕ
value_seen (Text text) = text.now
value_seen (Number n) = signed_decimal n

abbrev pub order_seen : AskedOption → Order
order_seen a = SetOption a.name.now (option_map value_seen a.value)

-- how many bytes its text has
abbrev pub order_size : List ℕ → Option OptionValue → ℕ
order_size name None = BUTTON_BYTES + length name
order_size name (Some (Text text)) = SETTING_BYTES + length name + length text.now
order_size name (Some (Number n)) = SETTING_BYTES + length name + length (signed_decimal n)

-- the order, whatever memory its texts lie in
abbrev pub setup_seen : SetupOrder → Order
setup_seen setup.NewGame = NewGame
setup_seen (setup.Set asked) = order_seen asked

-- the request, with the order as it is written
abbrev pub answer_seen : Answer (Option AskedOption) OptionFault → Answer (Option Order) OptionFault
answer_seen (Ok asked) = Ok (option_map order_seen asked)
answer_seen (Err fault) = Err fault
