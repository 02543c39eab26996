-- The orders that wait and the orders for a search.
use Rattle.std.specs.Prelude.{◌≡◌, ℕ, List, [], ◌∷◌, ◌++◌, map, Bool, true}
use Rattle.std.specs.Prelude.{false, if◌then◌else◌, Option, Some, None}
use Rattle.std.specs.Option.{option_to_list, option_map}
use Rattle.std.specs.List.{AllByRecursion, flat_map, join_with_byte}
use Rattle.chess_board.specs.declared.board.Move.{Move}
use Rattle.chess_board.specs.Position.{Position}
use Rattle.protocol_tokens.specs.declared.kinds.GoKind.{GoKind}
use Rattle.protocol_tokens.specs.declared.kinds.GoKind.TheVariants as kinds
use Rattle.fen_text.specs.Written.{position_fen}
use Rattle.uci_lines.specs.declared.orders.GoControl.{GoControl}
use Rattle.uci_lines.specs.declared.orders.GoControl.TheVariants.{Infinite}
use Rattle.uci_lines.specs.Orders.{Order}
use Rattle.uci_lines.specs.Orders as orders
use Rattle.uci_lines.specs.OrderReading.{is_writable_order}
use Rattle.game_record.specs.Game.{Game}
use Rattle.game_record.specs.Line.{ply_text, is_standard}
use Rattle.clock_map.specs.declared.request.SearchRequest.{SearchRequest}
use Rattle.clock_map.specs.Search.{search_order}
use Rattle.policy_rules.specs.declared.setting_rules.settings.Settings.{Settings}
use Rattle.option_map.specs.WaitingOrders.Held.{held_list_with, with_orders, held_order_can_join}
use Rattle.option_map.specs.DeclaredOptions.Data.{setup_seen}
use Rattle.search_epochs.specs.declared.words.Call.{Call}
use Rattle.search_epochs.specs.declared.words.Call.TheVariants as calls
use Rattle.search_epochs.specs.declared.words.Orders.{Orders}
use Rattle.search_epochs.specs.declared.words.Orders.TheVariants as chosen
use Rattle.search_epochs.specs.Tickets.{Word, kind_of}
use Rattle.search_epochs.specs.Tickets as word
use Rattle.desk_rules.specs.declared.effect.AskedOrders.{AskedOrders}
use Rattle.desk_rules.specs.declared.effect.AskedOrders.TheVariants as asks
use Rattle.desk_rules.specs.declared.desk.Desk.{Desk}
use Rattle.desk_rules.specs.Desk.{Situation, is_gone, analyses, on_move}
use Rattle.desk_rules.specs.Desk.{plies, game_played, ponder_name, analyse_name}
use Rattle.option_map.specs.DeclaredOptions.Settings.{OptionSetting}
use Rattle.desk_rules.specs.Lines.{check_order, asks as asked_of, order_asked_by, early_answer}
use Rattle.desk_rules.specs.Steps.{Effect, Accepts, Boots}
use Rattle.protocol_tokens.specs.Bytes.{blank}

-- WAITING

-- what is set when Boot is left: pondering, and analysis if the desk analyses
abbrev pub ponder_at_boot : Desk → Option Order
ponder_at_boot d = check_order d.options ponder_name d.pondering

abbrev pub analysis_at_boot : Desk → Option Order
analysis_at_boot d = if analyses d.mode then check_order d.options analyse_name true else None

-- the order that an early line asks for, if it asks for one
abbrev pub early_order : List OptionSetting → List ℕ → List Order
early_order os line = option_to_list (order_asked_by (early_answer os line))

-- the orders that early lines ask for, in turn
abbrev pub early_orders : List OptionSetting → List (List ℕ) → List Order
early_orders os lines = flat_map (early_order os) lines

-- the orders that are asked for when Boot is left: those of the early lines, and what is set then
abbrev pub asked_at_boot : Desk → List Order
asked_at_boot d =
    early_orders d.options d.early ++ option_to_list (ponder_at_boot d)
    ++ option_to_list (analysis_at_boot d)

-- the orders that an event asks for, in turn
unfoldable pub asked_by_effect : Situation → Effect → List Order
asked_by_effect h (Accepts m) = option_to_list (asked_of (is_gone h.engine) h.desk m)
asked_by_effect h Boots = asked_at_boot h.desk
asked_by_effect h d = []

-- what is asked for as data
abbrev pub orders_asked : AskedOrders → List Order
orders_asked (asks.One order) = option_to_list (option_map setup_seen order)
orders_asked (asks.AtBoot desk) = asked_at_boot desk.now

-- the orders that wait after an event
abbrev pub orders_waiting : Situation → List Order → Effect → List Order
orders_waiting h held d = with_orders held (asked_by_effect h d)

-- the orders may join one after the other
abbrev pub AllJoin : List Order → List Order → Type 0
AllJoin held [] = Unit {0}
AllJoin held (order ∷ later) = (held_order_can_join held order ≡ true) × AllJoin (held_list_with held order) later

-- the order may be written, and is a new game or sets an option
abbrev pub IsHeld : Order → Type 0
IsHeld orders.NewGame = Unit {0}
IsHeld (orders.SetOption name value) = is_writable_order (orders.SetOption name value) ≡ true
IsHeld order = ⊥

abbrev pub AreHeld : List Order → Type 0
AreHeld os = AllByRecursion IsHeld os

-- SEARCHES

-- the start of a game: none for the standard start
abbrev pub start_of : Position → Option (List ℕ)
start_of p = if is_standard p then None else Some (position_fen p)

-- the position of a game: its start, and its moves with one blank between
abbrev pub position_order : Game → Order
position_order g = orders.Position (start_of g.start) (join_with_byte blank (map ply_text g.moves))

-- the move that is pondered on
abbrev pub pondered : Call → Option Move
pondered (calls.Ponder h) = Some h
pondered c = None

-- the game whose position is searched: for pondering the hint is its last move
abbrev pub searched : Game → Call → Game
searched g (calls.Ponder h) = game_played g h
searched g c = g

-- what a search is made from
abbrev pub search_request : Settings → Game → Call → SearchRequest
search_request o g c = record {
  settings = o;
  side = on_move (searched g c);
  plies = plies (searched g c);
  kind = kind_of c;
}

-- `position` and `go` for what is owed
abbrev pub search_orders : Settings → Desk → Call → List Order
search_orders o d c =
    position_order (searched d.game c) ∷ search_order (search_request o d.game c) d.clocks ∷ []

-- the orders that were chosen
abbrev pub order_list : Settings → List Order → Desk → Orders → List Order
order_list o ws d chosen.None = []
order_list o ws d chosen.Batch = ws ++ orders.IsReady ∷ []
order_list o ws d (chosen.Begin c) = search_orders o d c
order_list o ws d chosen.Hit = orders.PonderHit ∷ []
order_list o ws d chosen.Stop = orders.Stop ∷ []

-- WORDS

-- the kind of search that a `go` names
abbrev pub go_kind_named : Bool → GoControl → GoKind
go_kind_named true control = kinds.Ponder
go_kind_named false Infinite = kinds.Analyse
go_kind_named false control = kinds.Move

-- what an order is to the dialogue
abbrev pub dialogue_word_of : Order → Word
dialogue_word_of orders.Uci = word.Uci
dialogue_word_of orders.IsReady = word.IsReady
dialogue_word_of orders.NewGame = word.Setup
dialogue_word_of orders.Stop = word.Stop
dialogue_word_of orders.PonderHit = word.PonderHit
dialogue_word_of orders.Quit = word.Quit
dialogue_word_of (orders.SetOption name value) = word.Setup
dialogue_word_of (orders.Position fen moves) = word.Position
dialogue_word_of (orders.Go ponder control depth) = word.Go (go_kind_named ponder control)
