-- The orders that may be written, and the order that a line is.
use Rattle.std.specs.Prelude.{◌≡◌, ℕ, List, [], ◌∷◌, ◌++◌, codes, Bool, true}
use Rattle.std.specs.Prelude.{false, not, ◌&&◌, if◌then◌else◌, Option, Some, None}
use Rattle.std.specs.Str.{bytes_eq}
use Rattle.chess_board.specs.Position.{Position as AnyPosition}
use Rattle.fen_text.specs.Written.{position_fen, IsNormal}
use Rattle.uci_lines.specs.declared.orders.GoControl.{GoControl}
use Rattle.uci_lines.specs.declared.orders.GoControl.TheVariants.{Infinite, MoveTime, Clock}
use Rattle.uci_lines.specs.Behind.{after, number_behind, perhaps_number}
use Rattle.uci_lines.specs.Written.{is_trimmed_text, option_value_cut, holds_value, is_moves}
use Rattle.uci_lines.specs.Written.{is_fen, fields_before, is_count, is_positive}
use Rattle.uci_lines.specs.Orders.{Order, Uci, IsReady, NewGame, Stop, PonderHit}
use Rattle.uci_lines.specs.Orders.{Quit, SetOption, Position, Go, uci_order_text}

-- The name ends before the first ` value `.
abbrev pub is_writable_setting : List ℕ → Option (List ℕ) → Bool
is_writable_setting name None = is_trimmed_text name && not (holds_value name)
is_writable_setting name (Some value) =
    is_trimmed_text name && is_trimmed_text value && not (holds_value (name ++ codes " value"))

abbrev pub is_writable_start : Option (List ℕ) → Bool
is_writable_start None = true
is_writable_start (Some fen) = is_fen fen

abbrev pub is_played : List ℕ → Bool
is_played [] = true
is_played (b ∷ bs) = is_moves (b ∷ bs)

abbrev pub is_positive_or_none : Option ℕ → Bool
is_positive_or_none None = true
is_positive_or_none (Some n) = is_positive n

abbrev pub is_none_of : Option ℕ → Bool
is_none_of None = true
is_none_of (Some n) = false

-- Without end there is neither pondering nor a depth. All numbers but the
-- increments are at least 1.
abbrev pub is_search : Bool → GoControl → Option ℕ → Bool
is_search ponder Infinite depth = not ponder && is_none_of depth
is_search ponder (MoveTime time) depth = is_positive time && is_positive_or_none depth
is_search ponder (Clock wtime btime winc binc movestogo) depth =
    is_positive wtime && is_positive btime && is_count winc && is_count binc
    && is_positive_or_none movestogo && is_positive_or_none depth

-- true if an order may be written
abbrev pub is_writable_order : Order → Bool
is_writable_order (SetOption name value) = is_writable_setting name value
is_writable_order (Position fen moves) = is_writable_start fen && is_played moves
is_writable_order (Go ponder control depth) = is_search ponder control depth
is_writable_order _ = true

abbrev pub order_where : Bool → Order → Option Order
order_where true order = Some order
order_where false order = None

-- after `setoption name `
abbrev pub setting_by : Option (List ℕ × List ℕ) → List ℕ → Option Order
setting_by None text = order_where (is_trimmed_text text) (SetOption text None)
setting_by (Some halves) text =
    order_where (is_trimmed_text halves.0 && is_trimmed_text halves.1) (SetOption halves.0 (Some halves.1))

abbrev pub setting_order_in : List ℕ → Option Order
setting_order_in text = setting_by (option_value_cut text) text

-- after the start of a position
abbrev pub moves_by : Option (List ℕ) → Option (List ℕ)
moves_by None = None
moves_by (Some moves) = if is_moves moves then Some moves else None

abbrev pub moves_in : List ℕ → Option (List ℕ)
moves_in [] = Some []
moves_in (b ∷ bs) = moves_by (after (codes " moves ") (b ∷ bs))

abbrev pub position_order_from : Option (List ℕ) → Option (List ℕ) → Option Order
position_order_from fen None = None
position_order_from fen (Some moves) = Some (Position fen moves)

abbrev pub setup_order : List ℕ × List ℕ → Option Order
setup_order halves =
    if is_fen halves.0 then position_order_from (Some halves.0) (moves_in halves.1) else None

abbrev pub fen_in : Option (List ℕ) → Option Order
fen_in None = None
fen_in (Some text) = setup_order (fields_before 5 text)

abbrev pub start_order_in : Option (List ℕ) → List ℕ → Option Order
start_order_in (Some others) text = position_order_from None (moves_in others)
start_order_in None text = fen_in (after (codes "fen ") text)

-- after `position `
abbrev pub position_in : List ℕ → Option Order
position_in text = start_order_in (after (codes "startpos") text) text

-- the four numbers of a clock, and the moves to go
abbrev pub clock_four : ℕ → ℕ → ℕ → Option (ℕ × List ℕ) → Option (GoControl × List ℕ)
clock_four wtime btime winc None = None
clock_four wtime btime winc (Some binc) =
    Some (
      Clock wtime btime winc binc.0 (perhaps_number (codes " movestogo ") binc.1).0,
      (perhaps_number (codes " movestogo ") binc.1).1,
    )

abbrev pub clock_three : ℕ → ℕ → Option (ℕ × List ℕ) → Option (GoControl × List ℕ)
clock_three wtime btime None = None
clock_three wtime btime (Some winc) =
    clock_four wtime btime winc.0 (number_behind (codes " binc ") winc.1)

abbrev pub clock_two : ℕ → Option (ℕ × List ℕ) → Option (GoControl × List ℕ)
clock_two wtime None = None
clock_two wtime (Some btime) = clock_three wtime btime.0 (number_behind (codes " winc ") btime.1)

abbrev pub clock_one : Option (ℕ × List ℕ) → Option (GoControl × List ℕ)
clock_one None = None
clock_one (Some wtime) = clock_two wtime.0 (number_behind (codes " btime ") wtime.1)

unfoldable pub clock_in : List ℕ → Option (GoControl × List ℕ)
clock_in text = clock_one (number_behind (codes " wtime ") text)

abbrev pub time_or_clock : Option (ℕ × List ℕ) → List ℕ → Option (GoControl × List ℕ)
time_or_clock (Some time) text = Some (MoveTime time.0, time.1)
time_or_clock None text = clock_in text

abbrev pub infinite_or : Option (List ℕ) → List ℕ → Option (GoControl × List ℕ)
infinite_or (Some others) text = Some (Infinite, others)
infinite_or None text = time_or_clock (number_behind (codes " movetime ") text) text

unfoldable pub control_in : List ℕ → Option (GoControl × List ℕ)
control_in text = infinite_or (after (codes " infinite") text) text

abbrev pub has_no_token : List ℕ → Bool
has_no_token [] = true
has_no_token (b ∷ bs) = false

abbrev pub search_end : Bool → GoControl → Option ℕ × List ℕ → Option Order
search_end ponder control depth =
    order_where (has_no_token depth.1 && is_search ponder control depth.0) (Go ponder control depth.0)

abbrev pub search_with : Bool → Option (GoControl × List ℕ) → Option Order
search_with ponder None = None
search_with ponder (Some control) =
    search_end ponder control.0 (perhaps_number (codes " depth ") control.1)

abbrev pub ponder_or : Option (List ℕ) → List ℕ → Option Order
ponder_or (Some others) text = search_with true (control_in others)
ponder_or None text = search_with false (control_in text)

-- after `go`
abbrev pub search_in : List ℕ → Option Order
search_in text = ponder_or (after (codes " ponder") text) text

abbrev pub search_or_none : Option (List ℕ) → Option Order
search_or_none None = None
search_or_none (Some text) = search_in text

abbrev pub position_or : Option (List ℕ) → List ℕ → Option Order
position_or (Some text) line = position_in text
position_or None line = search_or_none (after (codes "go") line)

abbrev pub setting_or : Option (List ℕ) → List ℕ → Option Order
setting_or (Some text) line = setting_order_in text
setting_or None line = position_or (after (codes "position ") line) line

abbrev pub long_order : List ℕ → Option Order
long_order line = setting_or (after (codes "setoption name ") line) line

-- the order that a line is
unfoldable pub order_in : List ℕ → Option Order
order_in line =
    if bytes_eq line (codes "uci") then Some Uci
    else (if bytes_eq line (codes "isready") then Some IsReady
    else (if bytes_eq line (codes "ucinewgame") then Some NewGame
    else (if bytes_eq line (codes "stop") then Some Stop
    else (if bytes_eq line (codes "ponderhit") then Some PonderHit
    else (if bytes_eq line (codes "quit") then Some Quit
    else long_order line)))))

-- a line is the text of an order that may be written
pub record SpellsOrder (line : List ℕ) (order : Order) : Type 0 where
  pub fits : is_writable_order order ≡ true
  pub text : line ≡ uci_order_text order

-- The text of every position may stand in an order.
abbrev pub TakesPositions : Type 0
TakesPositions = (p : AnyPosition) → IsNormal p → is_fen (position_fen p) ≡ true
