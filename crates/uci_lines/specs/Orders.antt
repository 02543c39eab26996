-- The orders to an engine, whatever memory their texts lie in, and how they are written.
use Rattle.std.specs.Prelude.{ℕ, List, [], ◌∷◌, ◌++◌, codes, decimal}
use Rattle.std.specs.Prelude.{Bool, true, false, Option, Some, None}
use Rattle.std.specs.Borrow.{Bor}
use Rattle.uci_lines.specs.declared.orders.GoControl.{GoControl}
use Rattle.uci_lines.specs.declared.orders.GoControl.TheVariants.{Infinite, MoveTime, Clock}
use Rattle.uci_lines.specs.declared.orders.Order.{Order as CodeOrder}
use Rattle.uci_lines.specs.declared.orders.Order.TheVariants as orders

pub data Order : Type 0 where
  Uci : Order
  IsReady : Order
  NewGame : Order
  Stop : Order
  PonderHit : Order
  Quit : Order
  SetOption : (name : List ℕ) (value : Option (List ℕ)) → Order
  Position : (fen : Option (List ℕ)) (moves : List ℕ) → Order
  Go : (ponder : Bool) (control : GoControl) (depth : Option ℕ) → Order

-- the text after a word, if there is one
abbrev pub optional_text : List ℕ → Option (List ℕ) → List ℕ
optional_text word None = []
optional_text word (Some text) = word ++ text

-- the number after a word, if there is one
abbrev pub optional_number : List ℕ → Option ℕ → List ℕ
optional_number word None = []
optional_number word (Some n) = word ++ decimal n

abbrev pub order_start_text : Option (List ℕ) → List ℕ
order_start_text None = codes "startpos"
order_start_text (Some fen) = codes "fen " ++ fen

abbrev pub order_moves_text : List ℕ → List ℕ
order_moves_text [] = []
order_moves_text (b ∷ bs) = codes " moves " ++ b ∷ bs

abbrev pub ponder_text : Bool → List ℕ
ponder_text false = []
ponder_text true = codes " ponder"

abbrev pub control_text : GoControl → List ℕ
control_text Infinite = codes " infinite"
control_text (MoveTime time) = codes " movetime " ++ decimal time
control_text (Clock wtime btime winc binc movestogo) =
    codes " wtime " ++ decimal wtime ++ codes " btime " ++ decimal btime ++ codes " winc "
    ++ decimal winc ++ codes " binc " ++ decimal binc
    ++ optional_number (codes " movestogo ") movestogo

abbrev pub set_option_text : List ℕ → Option (List ℕ) → List ℕ
set_option_text name value =
    codes "setoption name " ++ name ++ optional_text (codes " value ") value

abbrev pub uci_position_text : Option (List ℕ) → List ℕ → List ℕ
uci_position_text fen moves = codes "position " ++ order_start_text fen ++ order_moves_text moves

abbrev pub go_text : Bool → GoControl → Option ℕ → List ℕ
go_text ponder control depth =
    codes "go" ++ ponder_text ponder ++ control_text control
    ++ optional_number (codes " depth ") depth

-- the text of an order, without its line feed
unfoldable pub uci_order_text : Order → List ℕ
uci_order_text Uci = codes "uci"
uci_order_text IsReady = codes "isready"
uci_order_text NewGame = codes "ucinewgame"
uci_order_text Stop = codes "stop"
uci_order_text PonderHit = codes "ponderhit"
uci_order_text Quit = codes "quit"
uci_order_text (SetOption name value) = set_option_text name value
uci_order_text (Position fen moves) = uci_position_text fen moves
uci_order_text (Go ponder control depth) = go_text ponder control depth

abbrev pub optional_now : Option (Bor (List ℕ)) → Option (List ℕ)
optional_now None = None
optional_now (Some text) = Some text.now

abbrev pub uci_order_of : CodeOrder → Order
uci_order_of orders.Uci = Uci
uci_order_of orders.IsReady = IsReady
uci_order_of orders.NewGame = NewGame
uci_order_of orders.Stop = Stop
uci_order_of orders.PonderHit = PonderHit
uci_order_of orders.Quit = Quit
uci_order_of (orders.SetOption name value) = SetOption name.now (optional_now value)
uci_order_of (orders.Position fen moves) = Position (optional_now fen) moves.now
uci_order_of (orders.Go ponder control depth) = Go ponder control depth
