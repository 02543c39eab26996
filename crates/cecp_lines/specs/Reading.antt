-- The message that a line of the interface spells: as a function, and as a relation.
use Rattle.std.specs.Prelude.{◌≡◌, ℕ, ◌+◌, ◌*◌, ◌<◌, ◌≤◌, ◌⊎◌, ◌≢◌, codes, true, List}
use Rattle.std.specs.Prelude.{[], ◌∷◌, length, take, drop, position, Bool, if◌then◌else◌}
use Rattle.std.specs.Prelude.{◌==◌, nat_le, Option, Some, None, Result, Ok, Err}
use Rattle.std.specs.Option.{option_map, option_and_then, ok_or}
use Rattle.std.specs.Str.{bytes_eq}
use Rattle.chess_board.specs.declared.board.Move.{Move}
use Rattle.chess_board.specs.Text.{SpellsMove as MoveSpells}
use Rattle.protocol_tokens.specs.Tokens.{first_token, rest_after_token, trimmed, tokens}
use Rattle.protocol_tokens.specs.Numbers.{digits, number, centis, seconds}
use Rattle.cecp_lines.specs.declared.iface.IfaceFault.{IfaceFault}
use Rattle.cecp_lines.specs.declared.iface.IfaceFault.TheVariants.{UnknownCommand, BadArgument}
use Rattle.cecp_lines.specs.declared.words.Command.{Command}
use Rattle.cecp_lines.specs.declared.words.Command.TheVariants.{Ignored, Bare, With}
use Rattle.cecp_lines.specs.declared.words.BareWord.{BareWord}
use Rattle.cecp_lines.specs.declared.words.BareWord.TheVariants as bare
use Rattle.cecp_lines.specs.declared.words.Verb.{Verb}
use Rattle.cecp_lines.specs.declared.words.Verb.TheVariants as verbs
use Rattle.cecp_lines.specs.Messages as says
use Rattle.cecp_lines.specs.Messages.{IfaceMsg}
use Rattle.chess_board.specs.Spelling.{move_spelled_by}
use Rattle.cecp_lines.specs.Words.{is_ignored, iface_command_of}
use Rattle.protocol_tokens.specs.Bytes.{colon, equals}
use Rattle.protocol_tokens.specs.declared.numbers.TheConstants.{MINUTE, SECOND}

abbrev pub is_empty_text : List ℕ → Bool
is_empty_text text = bytes_eq text []

-- the token of a text of one token at most
abbrev pub only_token : List ℕ → Option (List ℕ)
only_token text = if is_empty_text (rest_after_token text) then Some (first_token text) else None

-- a version of at least 2
abbrev pub version : ℕ → Option IfaceMsg
version n = if nat_le 2 n then Some (says.Protover n) else None

abbrev pub protover : List ℕ → Option IfaceMsg
protover text = option_and_then version (option_and_then number (only_token text))

abbrev pub is_colon : ℕ → Bool
is_colon b = b == colon

-- minutes and seconds, of which there are at most 59, in milliseconds
abbrev pub minutes_seconds : Option ℕ → Option ℕ → Option ℕ
minutes_seconds (Some m) (Some s) = if nat_le s 59 then Some (m * MINUTE + s * SECOND) else None
minutes_seconds (Some m) None = None
minutes_seconds None s = None

abbrev pub base_at : Option ℕ → List ℕ → Option ℕ
base_at None text = option_map (λ m. m * MINUTE) (digits 4 text)
base_at (Some at) text = minutes_seconds (digits 4 (take at text)) (digits 2 (drop (at + 1) text))

-- 1 to 4 digits, and perhaps a colon and 1 or 2 digits more: minutes and seconds, as
-- a number of milliseconds
abbrev pub base_time : List ℕ → Option ℕ
base_time text = base_at (position is_colon text) text

abbrev pub level_of : Option ℕ → Option ℕ → Option ℕ → Option IfaceMsg
level_of (Some mps) (Some base_ms) (Some inc_ms) = Some (says.Level mps base_ms inc_ms)
level_of (Some mps) (Some base_ms) None = None
level_of (Some mps) None inc_ms = None
level_of None base_ms inc_ms = None

abbrev pub level : List ℕ → Option IfaceMsg
level text =
    level_of (digits 4 (first_token text)) (base_time (first_token (rest_after_token text)))
    (option_and_then seconds (only_token (rest_after_token (rest_after_token text))))

abbrev pub is_equals : ℕ → Bool
is_equals b = b == equals

-- a text is split at its first `=`
abbrev pub name_at : Option ℕ → List ℕ → List ℕ
name_at None text = text
name_at (Some at) text = trimmed (take at text)

abbrev pub value_at : Option ℕ → List ℕ → Option (List ℕ)
value_at None text = None
value_at (Some at) text = Some (drop (at + 1) text)

abbrev pub option_message_of : List ℕ → Option (List ℕ) → Option IfaceMsg
option_message_of name value = if is_empty_text name then None else Some (says.SetOption name value)

abbrev pub setting : List ℕ → Option IfaceMsg
setting text =
    option_message_of (name_at (position is_equals text) text) (value_at (position is_equals text) text)

abbrev pub egt_path : List ℕ → Option IfaceMsg
egt_path text =
    if is_empty_text (rest_after_token text) then None else Some (says.EgtPath (first_token text) (rest_after_token text))

-- the message of a command without arguments
abbrev pub bare_message : BareWord → IfaceMsg
bare_message bare.New = says.New
bare_message bare.Quit = says.Quit
bare_message bare.Force = says.Force
bare_message bare.Go = says.Go
bare_message bare.PlayOther = says.PlayOther
bare_message bare.MoveNow = says.MoveNow
bare_message bare.Draw = says.Draw
bare_message bare.Hint = says.Hint
bare_message bare.Undo = says.Undo
bare_message bare.Remove = says.Remove
bare_message bare.Hard = says.Hard
bare_message bare.Easy = says.Easy
bare_message bare.Post = says.Post
bare_message bare.NoPost = says.NoPost
bare_message bare.Analyze = says.Analyze
bare_message bare.Exit = says.Exit
bare_message bare.Dot = says.Dot
bare_message bare.Result = says.Result

-- the message of a command with arguments and the trimmed rest of its line
abbrev pub argument : Verb → List ℕ → Option IfaceMsg
argument verbs.Protover text = protover text
argument verbs.Ping text = option_map (λ n. says.Ping n) (option_and_then number (only_token text))
argument verbs.UserMove text =
    option_map (λ m. says.UserMove m) (option_and_then move_spelled_by (only_token text))
argument verbs.SetBoard text = Some (says.SetBoard text)
argument verbs.Level text = level text
argument verbs.St text = option_map (λ ms. says.St ms) (option_and_then seconds (only_token text))
argument verbs.Sd text = option_map (λ n. says.Sd n) (option_and_then number (only_token text))
argument verbs.Time text = option_map (λ n. says.Time n) (option_and_then centis (only_token text))
argument verbs.Otim text = option_map (λ n. says.Otim n) (option_and_then centis (only_token text))
argument verbs.SetOption text = setting text
argument verbs.Memory text =
    option_map (λ n. says.Memory n) (option_and_then number (only_token text))
argument verbs.Cores text =
    option_map (λ n. says.Cores n) (option_and_then number (only_token text))
argument verbs.EgtPath text = egt_path text

abbrev pub move_or_unknown : Option Move → Result IfaceMsg IfaceFault
move_or_unknown (Some m) = Ok (says.UserMove m)
move_or_unknown None = Err UnknownCommand

-- a line whose first token is no command: white space, or a move alone
abbrev pub other_line : List ℕ → List ℕ → Result IfaceMsg IfaceFault
other_line word more =
    if is_empty_text word then Ok says.Blank
    else (if is_empty_text more then move_or_unknown (move_spelled_by word) else Err UnknownCommand)

-- the reading of a line by the meaning of its first token
abbrev pub command_line : Option Command → List ℕ → Result IfaceMsg IfaceFault
command_line (Some Ignored) line = Ok (says.Ignored (trimmed line))
command_line (Some (Bare word)) line = Ok (bare_message word)
command_line (Some (With verb)) line = ok_or (argument verb (rest_after_token line)) BadArgument
command_line None line = other_line (first_token line) (rest_after_token line)

-- the message that a line spells, or why it spells none
abbrev pub message_or_fault : List ℕ → Result IfaceMsg IfaceFault
message_or_fault line = command_line (iface_command_of (first_token line)) line

-- THE RELATION, ROW BY ROW

-- the line's first token is the word
abbrev pub FirstTokenIs : List ℕ → List ℕ → Type 0
FirstTokenIs line word = first_token line ≡ word

-- the line is the word and one argument of this value
abbrev pub HasArgument : {A : Type 0} → List ℕ → List ℕ → (List ℕ → Option A) → A → Type 0
HasArgument line word read value =
    (t : List ℕ) × (tokens line ≡ word ∷ t ∷ []) × (read t ≡ Some value)

-- `level` with moves a session, base time and increment
abbrev pub HasLevel : List ℕ → ℕ → ℕ → ℕ → Type 0
HasLevel line mps base_ms inc_ms =
    (a b c : List ℕ) × (tokens line ≡ codes "level" ∷ a ∷ b ∷ c ∷ []) × (digits 4 a ≡ Some mps)
    × (base_time b ≡ Some base_ms) × (seconds c ≡ Some inc_ms)

-- the line is a move text alone
abbrev pub IsMoveAlone : List ℕ → Move → Type 0
IsMoveAlone line m = (t : List ℕ) × (tokens line ≡ t ∷ []) × MoveSpells t m

-- a move text after `usermove`, or alone
abbrev pub HasMove : List ℕ → Move → Type 0
HasMove line m =
    ((t : List ℕ) × (tokens line ≡ codes "usermove" ∷ t ∷ []) × MoveSpells t m) ⊎ IsMoveAlone line m

-- a name that is not empty, and perhaps a value, split at the first `=`
abbrev pub HasSetting : List ℕ → List ℕ → Option (List ℕ) → Type 0
HasSetting text name value =
    (0 < length name) × (name ≡ name_at (position is_equals text) text)
    × (value ≡ value_at (position is_equals text) text)

-- A line spells a message.
abbrev pub SpellsIfaceMsg : List ℕ → IfaceMsg → Type 0
SpellsIfaceMsg line says.Blank = tokens line ≡ []
SpellsIfaceMsg line (says.Ignored text) = (is_ignored (first_token line) ≡ true) × (text ≡ trimmed line)
SpellsIfaceMsg line says.New = FirstTokenIs line (codes "new")
SpellsIfaceMsg line says.Quit = FirstTokenIs line (codes "quit")
SpellsIfaceMsg line says.Force = FirstTokenIs line (codes "force")
SpellsIfaceMsg line says.Go = FirstTokenIs line (codes "go")
SpellsIfaceMsg line says.PlayOther = FirstTokenIs line (codes "playother")
SpellsIfaceMsg line says.MoveNow = FirstTokenIs line (codes "?")
SpellsIfaceMsg line says.Draw = FirstTokenIs line (codes "draw")
SpellsIfaceMsg line says.Hint = FirstTokenIs line (codes "hint")
SpellsIfaceMsg line says.Undo = FirstTokenIs line (codes "undo")
SpellsIfaceMsg line says.Remove = FirstTokenIs line (codes "remove")
SpellsIfaceMsg line says.Hard = FirstTokenIs line (codes "hard")
SpellsIfaceMsg line says.Easy = FirstTokenIs line (codes "easy")
SpellsIfaceMsg line says.Post = FirstTokenIs line (codes "post")
SpellsIfaceMsg line says.NoPost = FirstTokenIs line (codes "nopost")
SpellsIfaceMsg line says.Analyze = FirstTokenIs line (codes "analyze")
SpellsIfaceMsg line says.Exit = FirstTokenIs line (codes "exit")
SpellsIfaceMsg line says.Dot = FirstTokenIs line (codes ".")
SpellsIfaceMsg line says.Result = FirstTokenIs line (codes "result")
SpellsIfaceMsg line (says.Protover n) = HasArgument line (codes "protover") number n × (2 ≤ n)
SpellsIfaceMsg line (says.Ping n) = HasArgument line (codes "ping") number n
SpellsIfaceMsg line (says.UserMove m) = HasMove line m
SpellsIfaceMsg line (says.SetBoard text) = FirstTokenIs line (codes "setboard") × (text ≡ rest_after_token line)
SpellsIfaceMsg line (says.Level mps base_ms inc_ms) = HasLevel line mps base_ms inc_ms
SpellsIfaceMsg line (says.St ms) = HasArgument line (codes "st") seconds ms
SpellsIfaceMsg line (says.Sd n) = HasArgument line (codes "sd") number n
SpellsIfaceMsg line (says.Time n) = HasArgument line (codes "time") centis n
SpellsIfaceMsg line (says.Otim n) = HasArgument line (codes "otim") centis n
SpellsIfaceMsg line (says.SetOption name value) =
    FirstTokenIs line (codes "option") × HasSetting (rest_after_token line) name value
SpellsIfaceMsg line (says.Memory n) = HasArgument line (codes "memory") number n
SpellsIfaceMsg line (says.Cores n) = HasArgument line (codes "cores") number n
SpellsIfaceMsg line (says.EgtPath kind path) =
    FirstTokenIs line (codes "egtpath") × (kind ≡ first_token (rest_after_token line)) × (path ≡ rest_after_token (rest_after_token line))
    × (0 < length path)

-- the message is one that some line spells
abbrev pub CanBeRead : IfaceMsg → Type 0
CanBeRead msg = (line : List ℕ) × SpellsIfaceMsg line msg

-- The first token is no command word, and the line is not one move text.
abbrev pub IsUnknown : List ℕ → Type 0
IsUnknown line =
    (first_token line ≢ []) × (iface_command_of (first_token line) ≡ None)
    × ((m : Move) → IsMoveAlone line m → ⊥)

-- every other line that spells nothing
abbrev pub IsBad : List ℕ → Type 0
IsBad line = ((m : IfaceMsg) → SpellsIfaceMsg line m → ⊥) × (IsUnknown line → ⊥)

-- A line spells at most one message.
abbrev pub SpellsOneIfaceMessage : Type 0
SpellsOneIfaceMessage = (line : List ℕ) (a b : IfaceMsg) → SpellsIfaceMsg line a → SpellsIfaceMsg line b → a ≡ b
