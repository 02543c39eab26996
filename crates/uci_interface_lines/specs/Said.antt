-- The canonical text of what an engine says: the parts in the order of the
-- grammar, one blank between.
use Rattle.std.specs.Prelude.{ℕ, ℤ, List, [], ◌∷◌, ◌++◌, codes}
use Rattle.std.specs.Prelude.{Bool, true, false, Option, Some, None}
use Rattle.std.specs.Fmt.{signed_decimal}
use Rattle.chess_board.specs.declared.board.Move.{Move}
use Rattle.chess_board.specs.Text.{text_of_move}
use Rattle.uci_lines.specs.declared.messages.Score.{Score}
use Rattle.uci_lines.specs.declared.messages.Score.TheVariants.{Cp, Mate}
use Rattle.uci_lines.specs.Orders.{optional_number}
use Rattle.uci_lines.specs.Info.{Info as AnyInfo}
use Rattle.uci_lines.specs.Messages.{OptionKind, Check, Spin, Combo, Button, Text, EngineMsg}
use Rattle.uci_lines.specs.Messages.{Name, UciOk, ReadyOk, Best, OptionLine, Info, Nothing}
use Rattle.protocol_tokens.specs.Bytes.{blank}

-- a text after a blank, if there is one
abbrev pub spaced_text : List ℕ → List ℕ
spaced_text [] = []
spaced_text (b ∷ bs) = blank ∷ b ∷ bs

abbrev pub said_score_text : Option Score → List ℕ
said_score_text None = []
said_score_text (Some (Cp n)) = codes " score cp " ++ signed_decimal n
said_score_text (Some (Mate n)) = codes " score mate " ++ signed_decimal n

abbrev pub bound_text : Bool → List ℕ
bound_text false = []
bound_text true = codes " lowerbound"

-- the move after a word, if there is one
abbrev pub move_after_word : List ℕ → Option Move → List ℕ
move_after_word word None = []
move_after_word word (Some m) = word ++ text_of_move m

-- each move after a blank
abbrev pub each_move : List Move → List ℕ
each_move [] = []
each_move (m ∷ moves) = codes " " ++ text_of_move m ++ each_move moves

abbrev pub pv_text : List Move → List ℕ
pv_text [] = []
pv_text (m ∷ moves) = codes " pv" ++ each_move (m ∷ moves)

abbrev pub counts_text : AnyInfo → List ℕ
counts_text f =
    optional_number (codes " depth ") f.depth ++ optional_number (codes " time ") f.time
    ++ optional_number (codes " nodes ") f.nodes ++ optional_number (codes " multipv ") f.multipv
    ++ optional_number (codes " currmovenumber ") f.number

unfoldable pub facts_text : AnyInfo → List ℕ
facts_text f =
    codes "info" ++ counts_text f ++ said_score_text f.score ++ bound_text f.bound
    ++ move_after_word (codes " currmove ") f.current ++ pv_text f.pv

-- each value after `var`
abbrev pub each_value : List (List ℕ) → List ℕ
each_value [] = []
each_value (value ∷ values) = codes " var" ++ spaced_text value ++ each_value values

abbrev pub true_or_false : Bool → List ℕ
true_or_false true = codes "true"
true_or_false false = codes "false"

abbrev pub empty_or : List ℕ → List ℕ
empty_or [] = codes "<empty>"
empty_or (b ∷ bs) = b ∷ bs

abbrev pub check_text : Bool → List ℕ
check_text on = codes " type check default " ++ true_or_false on

abbrev pub range_text : ℤ → ℤ → List ℕ
range_text min max = (codes " min " ++ signed_decimal min) ++ (codes " max " ++ signed_decimal max)

abbrev pub spin_text : ℤ → ℤ → ℤ → List ℕ
spin_text default min max =
    (codes " type spin default " ++ signed_decimal default) ++ range_text min max

abbrev pub combo_text : List ℕ → List (List ℕ) → List ℕ
combo_text default values = codes " type combo default" ++ spaced_text default ++ each_value values

abbrev pub string_text : List ℕ → List ℕ
string_text default = codes " type string default " ++ empty_or default

abbrev pub shape_text : OptionKind → List ℕ
shape_text (Check on) = check_text on
shape_text (Spin default min max) = spin_text default min max
shape_text (Combo default values) = combo_text default values
shape_text Button = codes " type button"
shape_text (Text default) = string_text default

abbrev pub option_text : List ℕ → OptionKind → List ℕ
option_text name shape = codes "option name" ++ spaced_text name ++ shape_text shape

abbrev pub bestmove_text : Option Move → List ℕ
bestmove_text None = codes "0000"
bestmove_text (Some m) = text_of_move m

unfoldable pub said_text : EngineMsg → List ℕ
said_text (Name text) = codes "id name" ++ spaced_text text
said_text UciOk = codes "uciok"
said_text ReadyOk = codes "readyok"
said_text (Best best hint) =
    codes "bestmove " ++ bestmove_text best ++ move_after_word (codes " ponder ") hint
said_text (OptionLine name shape) = option_text name shape
said_text (Info facts) = facts_text facts
said_text Nothing = []
