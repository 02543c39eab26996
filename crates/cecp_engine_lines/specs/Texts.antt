-- The canonical spelling of each message: one blank between parts.
use Rattle.std.specs.Prelude.{ℕ, ◌+◌, ◌/◌, ◌%◌, List, [], ◌∷◌, ◌++◌, codes}
use Rattle.std.specs.Prelude.{decimal, if◌then◌else◌, ◌==◌, Option, Some, None}
use Rattle.std.specs.Fmt.{signed_decimal}
use Rattle.chess_board.specs.Text.{text_of_move}
use Rattle.protocol_tokens.specs.Numbers.{seconds_text}
use Rattle.cecp_lines.specs.Messages as says
use Rattle.cecp_lines.specs.Messages.{IfaceMsg}
use Rattle.cecp_lines.specs.Reading.{SpellsIfaceMsg, CanBeRead}
use Rattle.protocol_tokens.specs.Bytes.{blank, digit_zero, colon, equals}
use Rattle.protocol_tokens.specs.declared.numbers.TheConstants.{MINUTE, SECOND}

-- a blank and the rest, if there is one
abbrev pub after_blank : List ℕ → List ℕ
after_blank [] = []
after_blank (b ∷ bs) = blank ∷ b ∷ bs

-- a number below 100 with two digits
abbrev pub two_digits_of : ℕ → List ℕ
two_digits_of n = (digit_zero + n / 10) ∷ (digit_zero + n % 10) ∷ []

-- minutes, and a colon and seconds if there are some
abbrev pub base_text : ℕ → List ℕ
base_text ms =
    if ms / SECOND % 60 == 0 then decimal (ms / MINUTE)
    else decimal (ms / MINUTE) ++ (colon ∷ two_digits_of (ms / SECOND % 60))

abbrev pub option_value_text : Option (List ℕ) → List ℕ
option_value_text None = []
option_value_text (Some value) = equals ∷ value

-- the word of a message without arguments, and nothing for the others
abbrev pub bare_word_text : IfaceMsg → List ℕ
bare_word_text says.Blank = []
bare_word_text says.New = codes "new"
bare_word_text says.Quit = codes "quit"
bare_word_text says.Force = codes "force"
bare_word_text says.Go = codes "go"
bare_word_text says.PlayOther = codes "playother"
bare_word_text says.MoveNow = codes "?"
bare_word_text says.Draw = codes "draw"
bare_word_text says.Hint = codes "hint"
bare_word_text says.Undo = codes "undo"
bare_word_text says.Remove = codes "remove"
bare_word_text says.Hard = codes "hard"
bare_word_text says.Easy = codes "easy"
bare_word_text says.Post = codes "post"
bare_word_text says.NoPost = codes "nopost"
bare_word_text says.Analyze = codes "analyze"
bare_word_text says.Exit = codes "exit"
bare_word_text says.Dot = codes "."
bare_word_text says.Result = codes "result"
bare_word_text _ = []

abbrev pub message_text : IfaceMsg → List ℕ
message_text (says.Ignored text) = text
message_text (says.Protover n) = codes "protover " ++ decimal n
message_text (says.Ping n) = codes "ping " ++ decimal n
message_text (says.UserMove m) = codes "usermove " ++ text_of_move m
message_text (says.SetBoard text) = codes "setboard" ++ after_blank text
message_text (says.Level mps base_ms inc_ms) =
    codes "level " ++ decimal mps ++ codes " " ++ base_text base_ms ++ codes " "
    ++ seconds_text inc_ms
message_text (says.St ms) = codes "st " ++ seconds_text ms
message_text (says.Sd n) = codes "sd " ++ decimal n
message_text (says.Time n) = codes "time " ++ signed_decimal n
message_text (says.Otim n) = codes "otim " ++ signed_decimal n
message_text (says.SetOption name value) = codes "option " ++ name ++ option_value_text value
message_text (says.Memory n) = codes "memory " ++ decimal n
message_text (says.Cores n) = codes "cores " ++ decimal n
message_text (says.EgtPath kind path) = codes "egtpath " ++ kind ++ codes " " ++ path
message_text msg = bare_word_text msg

-- The canonical spelling of a message that some line spells, spells it.
abbrev pub IfaceMessagesReadBack : Type 0
IfaceMessagesReadBack = (m : IfaceMsg) → CanBeRead m → SpellsIfaceMsg (message_text m) m
