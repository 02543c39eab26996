-- The order for a search under the clocks.
use Rattle.std.specs.Prelude.{ℕ, ◌-◌, ◌/◌, ◌%◌, ◌≤◌, ◌==◌, if◌then◌else◌}
use Rattle.std.specs.Prelude.{true, false, max, length, Option, Some, None}
use Rattle.chess_board.specs.declared.board.Side.{Side}
use Rattle.chess_board.specs.declared.board.Side.TheVariants.{White, Black}
use Rattle.protocol_tokens.specs.declared.kinds.GoKind.{GoKind}
use Rattle.protocol_tokens.specs.declared.kinds.GoKind.TheVariants.{Move, Ponder, Analyse}
use Rattle.uci_lines.specs.declared.orders.GoControl.{GoControl}
use Rattle.uci_lines.specs.declared.orders.GoControl.TheVariants.{Infinite, MoveTime, Clock}
use Rattle.uci_lines.specs.Orders.{Order, Go, uci_order_text}
use Rattle.uci_lines.specs.OrderReading.{SpellsOrder}
use Rattle.clock_map.specs.declared.request.SearchRequest.{SearchRequest}
use Rattle.clock_map.specs.declared.clocks.Clocks.{Clocks}
use Rattle.clock_map.specs.declared.clocks.Control.{Control}
use Rattle.clock_map.specs.declared.clocks.Control.TheVariants.{Session, Fixed}
use Rattle.clock_map.specs.Clocks.{at_least_one, ClocksAreShort}

-- The number of moves left until the next time control, if there is one. A move is two plies.
abbrev pub moves_to_go : ℕ → ℕ → Option ℕ
moves_to_go moves plies = if moves == 0 then None else Some (moves - plies / 2 % moves)

-- White's and Black's time, if the engine has this side
abbrev pub clock_times_of : Clocks → Side → ℕ → GoControl
clock_times_of c White plies =
    Clock (at_least_one c.engine) (at_least_one c.opponent) c.increment c.increment
    (moves_to_go c.moves plies)
clock_times_of c Black plies =
    Clock (at_least_one c.opponent) (at_least_one c.engine) c.increment c.increment
    (moves_to_go c.moves plies)

-- a fixed time for the move is less by the margin, and at least one millisecond
abbrev pub time_of : Control → Clocks → Side → ℕ → ℕ → GoControl
time_of Session c side plies margin = clock_times_of c side plies
time_of (Fixed time) c side plies margin = MoveTime (max (time - margin) 1)

-- the order for a search of this kind, whatever kind the request names
abbrev pub order_by_kind : GoKind → SearchRequest → Clocks → Order
order_by_kind Move r c = Go false (time_of c.control c r.side r.plies r.settings.time_margin) c.depth
order_by_kind Ponder r c = Go true (time_of c.control c r.side r.plies r.settings.time_margin) c.depth
order_by_kind Analyse r c = Go false Infinite None

-- the order for the search that is requested, under these clocks
abbrev pub search_order : SearchRequest → Clocks → Order
search_order r c = order_by_kind r.kind r c

-- Such an order may be written, and its text is what the line of it is read back from.
abbrev pub SearchOrdersAreSpelled : Type 0
SearchOrdersAreSpelled =
    (r : SearchRequest) (c : Clocks) → ClocksAreShort c
    → SpellsOrder (uci_order_text (search_order r c)) (search_order r c)

-- how long its text is at most
abbrev pub most : ℕ
most = 113

abbrev pub AreFewBytes : Type 0
AreFewBytes =
    (r : SearchRequest) (c : Clocks) → ClocksAreShort c
    → length (uci_order_text (search_order r c)) ≤ most
