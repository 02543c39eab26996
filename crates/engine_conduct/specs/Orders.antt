-- The orders to an engine, by their first tokens (UCI, April 2006, "GUI to engine").
use Rattle.std.specs.Prelude.{ℕ, List, [], ◌∷◌, length, codes, Bool, true, not, ◌&&◌, ◌||◌}
use Rattle.std.specs.Prelude.{◌==◌, if◌then◌else◌, Option, Some, None}
use Rattle.std.specs.Str.{str_eq_ignore_ascii_case}
use Rattle.protocol_tokens.specs.Tokens.{first_token, rest_after_token, tokens}
use Rattle.chess_board.specs.declared.board.Variant.{Variant}
use Rattle.chess_board.specs.declared.board.Variant.TheVariants.{Normal, Fischer}
use Rattle.chess_board.specs.Position.{Position}
use Rattle.uci_lines.specs.Cuts.{is_word}
use Rattle.uci_lines.specs.Messages.{EngineMsg, OptionKind, OptionLine, Check, Combo}
use Rattle.uci_interface_lines.specs.Lines.{position_line_by}
use Rattle.session_judge.specs.DialogueEvents.{end_of}
use Rattle.engine_conduct.specs.declared.orders.AskedWord.{AskedWord}
use Rattle.engine_conduct.specs.declared.orders.AskedWord.TheVariants as words
use Rattle.engine_conduct.specs.declared.orders.HeardOrder.{HeardOrder}
use Rattle.engine_conduct.specs.declared.orders.HeardOrder.TheVariants as orders
use Rattle.engine_conduct.specs.declared.orders.Castling.{Castling}
use Rattle.engine_conduct.specs.declared.orders.Castling.TheVariants as castlings
use Rattle.engine_conduct.specs.declared.orders.PlayedGame.{PlayedGame}
use Rattle.engine_conduct.specs.declared.orders.PlayedGame.TheVariants as games
use Rattle.engine_conduct.specs.declared.orders.GameOption.{GameOption}
use Rattle.engine_conduct.specs.declared.orders.GameOption.TheVariants as options
use Rattle.engine_conduct.specs.declared.orders.GameChoice.{GameChoice}
use Rattle.engine_conduct.specs.declared.orders.GameChoice.TheVariants as choices
use Rattle.engine_conduct.specs.Words.{has_token, token_alone}

-- the word with which an order begins
abbrev pub order_word : List ℕ → Option AskedWord
order_word t =
    if is_word (codes "uci") t then Some words.Uci
    else (if is_word (codes "isready") t then Some words.IsReady
    else (if is_word (codes "setoption") t then Some words.SetOption
    else (if is_word (codes "ucinewgame") t then Some words.NewGame
    else (if is_word (codes "position") t then Some words.Position
    else (if is_word (codes "go") t then Some words.Go
    else (if is_word (codes "stop") t then Some words.Stop
    else (if is_word (codes "ponderhit") t then Some words.PonderHit
    else (if is_word (codes "quit") t then Some words.Quit
    else (if is_word (codes "debug") t || is_word (codes "register") t then Some words.Passing
    else None)))))))))

-- no word of UCI: nothing, or a foreign one
abbrev pub order_by_word : Option AskedWord → List ℕ → HeardOrder
order_by_word (Some word) t = orders.Word word
order_by_word None t = if length t == 0 then orders.Blank else orders.Foreign

abbrev pub order_heard : List ℕ → HeardOrder
order_heard line = order_by_word (order_word (first_token line)) (first_token line)

-- THE GAME THAT IS CHOSEN

-- names of options, case ignored
abbrev pub option_named : List ℕ → Option GameOption
option_named name =
    if str_eq_ignore_ascii_case name (codes "UCI_Chess960") then Some options.Chess960
    else (if str_eq_ignore_ascii_case name (codes "UCI_Variant")
    || str_eq_ignore_ascii_case name (codes "Variant") then Some options.Variant else None)

abbrev pub is_plain_game : List ℕ → Bool
is_plain_game name =
    str_eq_ignore_ascii_case name (codes "chess") || str_eq_ignore_ascii_case name (codes "normal")
    || str_eq_ignore_ascii_case name (codes "standard")

abbrev pub castling_named : Option (List ℕ) → Castling
castling_named None = castlings.Chess960
castling_named (Some t) = if is_word (codes "false") t then castlings.Standard else castlings.Chess960

abbrev pub game_named : Option (List ℕ) → PlayedGame
game_named None = games.Other
game_named (Some t) = if is_plain_game t then games.Chess else games.Other

abbrev pub choice_set_by : GameOption → Option (List ℕ) → GameChoice
choice_set_by options.Chess960 value = choices.Castling (castling_named value)
choice_set_by options.Variant value = choices.Game (game_named value)

abbrev pub value_behind : List (List ℕ) → Option (List (List ℕ))
value_behind [] = Some []
value_behind (t ∷ ts) = if is_word (codes "value") t then Some ts else None

abbrev pub choice_set_to : Option GameOption → Option (List (List ℕ)) → Option GameChoice
choice_set_to None value = None
choice_set_to (Some option) None = None
choice_set_to (Some option) (Some ts) = Some (choice_set_by option (token_alone ts))

-- "setoption name <id> value <x>"
abbrev pub variant_set_in : List (List ℕ) → Option GameChoice
variant_set_in [] = None
variant_set_in (word ∷ []) = None
variant_set_in (word ∷ name ∷ ts) =
    if not (is_word (codes "name") word) then None else choice_set_to (option_named name) (value_behind ts)

abbrev pub variant_set : List ℕ → Option GameChoice
variant_set line = variant_set_in (tokens (rest_after_token line))

-- by the default of an option
abbrev pub declared_game : List ℕ → Option GameChoice
declared_game default =
    if length default == 0 || is_plain_game default then None else Some (choices.Game games.Other)

abbrev pub declared_by_kind : Option GameOption → OptionKind → Option GameChoice
declared_by_kind (Some options.Chess960) (Check true) = Some choices.Declared
declared_by_kind (Some options.Variant) (Combo default values) = declared_game default
declared_by_kind option kind = None

abbrev pub declared_set : EngineMsg → Option GameChoice
declared_set (OptionLine name kind) = declared_by_kind (option_named name) kind
declared_set m = None

-- POSITIONS AND SEARCHES

-- by whose rules kings castle, if it is known
abbrev pub castling_variant : Castling → Option Variant
castling_variant castlings.Usual = Some Normal
castling_variant castlings.Standard = Some Normal
castling_variant castlings.Declared = Some Fischer
castling_variant castlings.Chess960 = Some Fischer
castling_variant castlings.Unclear = None

-- the rules by which positions are read, if they are known: those of another game are not
abbrev pub variant_played : Castling → PlayedGame → Option Variant
variant_played castling games.Chess = castling_variant castling
variant_played castling games.Other = None

-- the position of a `position` line by these rules
abbrev pub position_placed : Option Variant → List ℕ → Option Position
position_placed None line = None
position_placed (Some variant) line = end_of (position_line_by variant line)

-- "go ponder"
abbrev pub begins_pondering : List (List ℕ) → Bool
begins_pondering ts = has_token (codes "ponder") ts

-- "go infinite", and nothing that limits the search
abbrev pub is_unlimited : List (List ℕ) → Bool
is_unlimited ts =
    has_token (codes "infinite") ts && not (has_token (codes "depth") ts)
    && not (has_token (codes "nodes") ts) && not (has_token (codes "mate") ts)
    && not (has_token (codes "movetime") ts)
