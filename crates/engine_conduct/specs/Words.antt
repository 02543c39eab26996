-- The words of an engine's lines, and what may stand behind them (UCI, April 2006, "Engine to GUI").
use Rattle.std.specs.Prelude.{ℕ, List, [], ◌∷◌, length, codes, Bool, ◌&&◌, ◌||◌, nat_lt}
use Rattle.std.specs.Prelude.{if◌then◌else◌, is_some, Option, Some, None}
use Rattle.std.specs.List.{list_all, list_any}
use Rattle.std.specs.Char.{is_ascii_digit}
use Rattle.protocol_tokens.specs.Tokens.{first_token}
use Rattle.chess_board.specs.Spelling.{move_spelled_by}
use Rattle.uci_lines.specs.Cuts.{is_word}
use Rattle.engine_conduct.specs.declared.words.EngineWord.{EngineWord}
use Rattle.engine_conduct.specs.declared.words.EngineWord.TheVariants as engines
use Rattle.engine_conduct.specs.declared.words.InfoWord.{InfoWord}
use Rattle.engine_conduct.specs.declared.words.InfoWord.TheVariants as infos

-- the word with which an engine's line begins
abbrev pub engine_word : List ℕ → Option EngineWord
engine_word t =
    if is_word (codes "id") t then Some engines.Id
    else (if is_word (codes "uciok") t then Some engines.UciOk
    else (if is_word (codes "readyok") t then Some engines.ReadyOk
    else (if is_word (codes "bestmove") t then Some engines.Best
    else (if is_word (codes "info") t then Some engines.Info
    else (if is_word (codes "option") t then Some engines.Option else None)))))

-- Only the first token counts: UCI passes over unknown words, but a banner that has such a word later
-- is no answer.
abbrev pub engine_word_in : List ℕ → Option EngineWord
engine_word_in line = engine_word (first_token line)

abbrev pub is_passing : List ℕ → Bool
is_passing t =
    is_word (codes "hashfull") t || is_word (codes "nps") t || is_word (codes "tbhits") t
    || is_word (codes "sbhits") t || is_word (codes "cpuload") t || is_word (codes "lowerbound") t
    || is_word (codes "upperbound") t

-- the word of `info` that a token is
abbrev pub info_word : List ℕ → Option InfoWord
info_word t =
    if is_word (codes "depth") t then Some infos.Depth
    else (if is_word (codes "seldepth") t then Some infos.SelDepth
    else (if is_word (codes "time") t || is_word (codes "nodes") t then Some infos.Count
    else (if is_word (codes "multipv") t || is_word (codes "currmovenumber") t then Some infos.Count
    else (if is_word (codes "score") t then Some infos.Score
    else (if is_word (codes "currmove") t then Some infos.CurrMove
    else (if is_word (codes "pv") t then Some infos.Pv
    else (if is_word (codes "refutation") t then Some infos.Refutation
    else (if is_word (codes "currline") t then Some infos.CurrLine
    else (if is_word (codes "string") t then Some infos.Text
    else (if is_passing t then Some infos.Passing else None))))))))))

-- digits alone
abbrev pub is_number : List ℕ → Bool
is_number t = nat_lt 0 (length t) && list_all is_ascii_digit t

abbrev pub spells_move : List ℕ → Bool
spells_move t = is_some (move_spelled_by t)

abbrev pub is_null_move : List ℕ → Bool
is_null_move t = is_word (codes "0000") t

abbrev pub has_token : List ℕ → List (List ℕ) → Bool
has_token word ts = list_any (is_word word) ts

-- the tokens behind the first that is this word
abbrev pub behind_word : List ℕ → List (List ℕ) → Option (List (List ℕ))
behind_word word [] = None
behind_word word (t ∷ ts) = if is_word word t then Some ts else behind_word word ts

-- the token of a list that has one
abbrev pub token_alone : List (List ℕ) → Option (List ℕ)
token_alone (t ∷ []) = Some t
token_alone ts = None
