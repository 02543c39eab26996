-- The orders of an interface, in any spelling (UCI, April 2006, "GUI to engine").
use Rattle.std.specs.Prelude.{ℕ, List, [], ◌∷◌, map, codes, Bool, true, false, ◌&&◌, if◌then◌else◌}
use Rattle.std.specs.Char.{to_ascii_lowercase}
use Rattle.std.specs.Str.{bytes_eq}
use Rattle.protocol_tokens.specs.Tokens.{tokens}
use Rattle.protocol_tokens.specs.declared.kinds.GoKind.{GoKind}
use Rattle.uci_lines.specs.Cuts.{is_word}
use Rattle.engine_revival.specs.declared.orders.RevivalOrder.{RevivalOrder as CodeOrder}
use Rattle.engine_revival.specs.declared.orders.RevivalOrder.TheVariants as orders

-- A setting, a `position` and a `go` have their line, as it came. A setting to a value, and one
-- without, as of a button, have the words of the option's name, in lower case.
pub data RevivalOrder : Type 0 where
  Uci : RevivalOrder
  IsReady : RevivalOrder
  NewGame : RevivalOrder
  Stop : RevivalOrder
  PonderHit : RevivalOrder
  Quit : RevivalOrder
  Value : (name : List (List ℕ)) (line : List ℕ) → RevivalOrder
  Button : (name : List (List ℕ)) (line : List ℕ) → RevivalOrder
  Position : (line : List ℕ) → RevivalOrder
  Go : (kind : GoKind) (line : List ℕ) → RevivalOrder

-- the text of an order, without its line feed
unfoldable pub revival_order_text : RevivalOrder → List ℕ
revival_order_text Uci = codes "uci"
revival_order_text IsReady = codes "isready"
revival_order_text NewGame = codes "ucinewgame"
revival_order_text Stop = codes "stop"
revival_order_text PonderHit = codes "ponderhit"
revival_order_text Quit = codes "quit"
revival_order_text (Value name line) = line
revival_order_text (Button name line) = line
revival_order_text (Position line) = line
revival_order_text (Go kind line) = line

-- THE NAMES OF OPTIONS

-- with ASCII letters in lower case
abbrev pub in_lowercase : List ℕ → List ℕ
in_lowercase word = map to_ascii_lowercase word

-- the words before the first `value`
abbrev pub words_before_value : List (List ℕ) → List (List ℕ)
words_before_value [] = []
words_before_value (t ∷ ts) =
    if is_word (codes "value") t then [] else in_lowercase t ∷ words_before_value ts

-- the words of a name, which has one at least
abbrev pub option_name_in : List (List ℕ) → List (List ℕ)
option_name_in [] = []
option_name_in (t ∷ ts) = in_lowercase t ∷ words_before_value ts

-- Names are the same if their words are, case ignored.
abbrev pub are_same_names : List (List ℕ) → List (List ℕ) → Bool
are_same_names [] [] = true
are_same_names (a ∷ more) (b ∷ others) = bytes_eq a b && are_same_names more others
are_same_names a b = false

-- WHAT A READ ORDER IS TO CONTRACTS

abbrev pub revival_order_of : CodeOrder → RevivalOrder
revival_order_of orders.Uci = Uci
revival_order_of orders.IsReady = IsReady
revival_order_of orders.NewGame = NewGame
revival_order_of orders.Stop = Stop
revival_order_of orders.PonderHit = PonderHit
revival_order_of orders.Quit = Quit
revival_order_of (orders.Value name line) = Value (option_name_in (tokens name.now)) line.now
revival_order_of (orders.Button name line) = Button (option_name_in (tokens name.now)) line.now
revival_order_of (orders.Position line) = Position line.now
revival_order_of (orders.Go kind line) = Go kind line.now
