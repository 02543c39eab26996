-- The order that a line is.
use Rattle.std.specs.Prelude.{ℕ, List, [], ◌∷◌, codes, Bool, true}
use Rattle.std.specs.Prelude.{false, if◌then◌else◌, Option, Some, None}
use Rattle.protocol_tokens.specs.Tokens.{tokens, trimmed}
use Rattle.uci_lines.specs.Cuts.{is_word}
use Rattle.uci_lines.specs.Orders.{Order as OwnOrder}
use Rattle.uci_lines.specs.OrderReading.{order_in as own_order_in}
use Rattle.uci_interface_lines.specs.Kinds.{has_token_word, kind_asked}
use Rattle.uci_interface_lines.specs.Lines.{Line, position_line_in}
use Rattle.engine_revival.specs.Orders.{RevivalOrder, Uci, IsReady, NewGame, Stop, PonderHit}
use Rattle.engine_revival.specs.Orders.{Quit, Value, Button, Position, Go, option_name_in}

-- an order of one word
abbrev pub word_asked : List ℕ → Option RevivalOrder
word_asked line =
    if is_word (codes "uci") line then Some Uci
    else (if is_word (codes "isready") line then Some IsReady
    else (if is_word (codes "ucinewgame") line then Some NewGame
    else (if is_word (codes "stop") line then Some Stop
    else (if is_word (codes "ponderhit") line then Some PonderHit
    else (if is_word (codes "quit") line then Some Quit else None)))))

-- a setting of the option that these tokens name, with a value if one of them
-- after the first is `value`
abbrev pub setting_asked_of : Bool → List (List ℕ) → List ℕ → RevivalOrder
setting_asked_of true ts line = Value (option_name_in ts) line
setting_asked_of false ts line = Button (option_name_in ts) line

-- by the tokens after `name`
abbrev pub setting_after_name : List (List ℕ) → List ℕ → Option RevivalOrder
setting_after_name [] line = None
setting_after_name (t ∷ ts) line = Some (setting_asked_of (has_token_word (codes "value") ts) (t ∷ ts) line)

-- by the tokens after `setoption`
abbrev pub setting_asked : List (List ℕ) → List ℕ → Option RevivalOrder
setting_asked [] line = None
setting_asked (t ∷ ts) line = if is_word (codes "name") t then setting_after_name ts line else None

-- A `position` is one in the spelling that the bridge writes, or one that says a position and moves
-- that are legal in their turn.
abbrev pub position_asked : Option OwnOrder → Option Line → List ℕ → Option RevivalOrder
position_asked (Some own) said line = Some (Position line)
position_asked None (Some said) line = Some (Position line)
position_asked None None line = None

-- by the tokens of the line
abbrev pub tokens_ask_for : List (List ℕ) → List ℕ → Option RevivalOrder
tokens_ask_for [] line = None
tokens_ask_for (t ∷ ts) line =
    if is_word (codes "setoption") t then setting_asked ts line
    else (if is_word (codes "position") t
    then position_asked (own_order_in line) (position_line_in line) line
    else (if is_word (codes "go") t then Some (Go (kind_asked line) line) else word_asked line))

-- the order that a line without white space at its ends is, if it is one
unfoldable pub revival_order_in : List ℕ → Option RevivalOrder
revival_order_in line = tokens_ask_for (tokens line) line

-- the order that a line of the interface is, as it came but without the white space at its ends
abbrev pub order_of_line : List ℕ → Option RevivalOrder
order_of_line line = revival_order_in (trimmed line)
