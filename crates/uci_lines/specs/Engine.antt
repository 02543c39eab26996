-- The meaning of a line of the engine.
use Rattle.std.specs.Prelude.{ℕ, List, [], codes, true, if◌then◌else◌, Option, Some, None}
use Rattle.protocol_tokens.specs.Tokens.{first_token, rest_after_token}
use Rattle.chess_board.specs.declared.board.Move.{Move}
use Rattle.uci_lines.specs.Cuts.{Found, found_token, is_word, is_known}
use Rattle.chess_board.specs.Spelling.{move_spelled_by}
use Rattle.uci_lines.specs.Options.{option_said}
use Rattle.uci_lines.specs.Infos.{facts_in}
use Rattle.uci_lines.specs.Messages.{EngineMsg, Name, UciOk, ReadyOk, Best, Info, Nothing}

-- after `id`
abbrev pub name_said : List ℕ → EngineMsg
name_said text = if is_word (codes "name") (first_token text) then Name (rest_after_token text) else Nothing

-- after `ponder`
abbrev pub hint_in_bestmove : Option Found → Option Move
hint_in_bestmove None = None
hint_in_bestmove (Some part) = move_spelled_by (first_token part.after)

-- after `bestmove`
abbrev pub best_said : List ℕ → EngineMsg
best_said text =
    Best (move_spelled_by (first_token text))
    (hint_in_bestmove (found_token (is_word (codes "ponder")) true (rest_after_token text)))

-- the token behind `bestmove`, whatever it spells
abbrev pub behind_bestmove : Option Found → List ℕ
behind_bestmove None = []
behind_bestmove (Some part) =
    if is_word (codes "bestmove") part.word then first_token part.after else []

unfoldable pub answer_text : List ℕ → List ℕ
answer_text line = behind_bestmove (found_token is_known true line)

-- a known word, with what follows it
abbrev pub said_after : List ℕ → List ℕ → EngineMsg
said_after word text =
    if is_word (codes "id") word then name_said text
    else (if is_word (codes "uciok") word then UciOk
    else (if is_word (codes "readyok") word then ReadyOk
    else (if is_word (codes "bestmove") word then best_said text
    else (if is_word (codes "info") word then Info (facts_in text)
    else option_said text))))

abbrev pub found_message : Option Found → EngineMsg
found_message None = Nothing
found_message (Some part) = said_after part.word part.after

-- the text before the first known word is ignored
unfoldable pub engine_message : List ℕ → EngineMsg
engine_message line = found_message (found_token is_known true line)
