-- The rules of an engine's conduct, each a test of what was known before and of a line.
use Rattle.std.specs.Prelude.{ℕ, List, codes, Bool, true, false, not, ◌&&◌, ◌||◌}
use Rattle.std.specs.Prelude.{◌==◌, if◌then◌else◌, Option, Some, None}
use Rattle.protocol_tokens.specs.Tokens.{rest_after_token, tokens}
use Rattle.chess_board.specs.declared.board.Move.{Move}
use Rattle.chess_board.specs.Position.{Position}
use Rattle.chess_board.specs.Place.{after_if_legal, legal, legal_count}
use Rattle.uci_lines.specs.Engine.{engine_message}
use Rattle.uci_lines.specs.Messages.{EngineMsg}
use Rattle.uci_lines.specs.Messages as says
use Rattle.engine_conduct.specs.declared.known.Due.{Due}
use Rattle.engine_conduct.specs.declared.known.Known.{Known}
use Rattle.engine_conduct.specs.declared.rule.ConductRule.{ConductRule}
use Rattle.engine_conduct.specs.declared.rule.ConductRule.TheVariants as rules
use Rattle.engine_conduct.specs.declared.search.Pondering.{Pondering}
use Rattle.engine_conduct.specs.declared.words.EngineWord.{EngineWord}
use Rattle.engine_conduct.specs.declared.words.EngineWord.TheVariants as engines
use Rattle.engine_conduct.specs.Defaults.{behind_kind, breaks_default}
use Rattle.engine_conduct.specs.Forms.{breaks_form, tells}
use Rattle.engine_conduct.specs.Listed.{is_unlisted}
use Rattle.engine_conduct.specs.Runs.{has_illegal_run, has_unlisted_run}
use Rattle.engine_conduct.specs.Searches.{is_bound, is_judged, search_place}
use Rattle.engine_conduct.specs.Words.{behind_word}

-- Unasked: an answer where none is due.
abbrev pub breaks_unasked : Due → EngineWord → Bool
breaks_unasked due engines.UciOk = due.boots == 0
breaks_unasked due engines.ReadyOk = due.readies == 0
breaks_unasked due engines.Best = due.answers == 0
breaks_unasked due word = false

abbrev pub tells_thinking : List (List ℕ) → Bool
tells_thinking ts =
    tells (codes "depth") ts || tells (codes "score") ts || tells (codes "pv") ts
    || tells (codes "currmove") ts || tells (codes "refutation") ts || tells (codes "currline") ts

-- Late: a report on a search where no `bestmove` is due.
abbrev pub breaks_late : Due → EngineWord → List ℕ → Bool
breaks_late due engines.Info line = due.answers == 0 && tells_thinking (tokens (rest_after_token line))
breaks_late due word line = false

-- Declared: an option where no `uciok` is due, or one with a default that its type does not allow.
abbrev pub breaks_declared : Due → EngineWord → List ℕ → Bool
breaks_declared due engines.Option line =
    due.boots == 0 || breaks_default (engine_message line)
    (behind_kind (behind_word (codes "type") (tokens (rest_after_token line))))
breaks_declared due word line = false

abbrev pub is_best_word : EngineWord → Bool
is_best_word engines.Best = true
is_best_word word = false

-- the moves of a `bestmove`
abbrev pub moves_answered : EngineMsg → Option Move × Option Move
moves_answered (says.Best best hint) = (best, hint)
moves_answered m = (None, None)

abbrev pub illegal_answer : Position → Option Move → Bool
illegal_answer p (Some m) = not (legal p m)
illegal_answer p None = not (legal_count p == 0)

abbrev pub illegal_reply : Option Position → Move → Bool
illegal_reply None m = false
illegal_reply (Some p) m = not (legal p m)

abbrev pub illegal_hint : Position → Option Move → Option Move → Bool
illegal_hint p (Some m) (Some reply) = illegal_reply (after_if_legal p m) reply
illegal_hint p best hint = false

abbrev pub unlisted_answer : Position → List Move → Option Move → Bool
unlisted_answer p listed None = false
unlisted_answer p listed (Some m) = legal p m && is_unlisted listed m

-- Move: the answer is not legal where the engine searched, or is none though there is a legal move.
abbrev pub breaks_move : Option (Position × Pondering) → EngineWord → List ℕ → Bool
breaks_move (Some place) engines.Best line =
    is_judged place.1 && illegal_answer place.0 (moves_answered (engine_message line)).0
breaks_move place word line = false

-- Pv: a line of moves that are not legal in their turn.
abbrev pub breaks_pv : Option (Position × Pondering) → EngineWord → List ℕ → Bool
breaks_pv (Some place) engines.Info line =
    has_illegal_run place.1 place.0 (tokens (rest_after_token line))
breaks_pv place word line = false

-- SearchMoves: a legal move that was not to be searched.
abbrev pub breaks_searchmoves : Option (Position × Pondering) → List Move → EngineWord → List ℕ → Bool
breaks_searchmoves (Some place) listed engines.Best line =
    unlisted_answer place.0 listed (moves_answered (engine_message line)).0
breaks_searchmoves (Some place) listed engines.Info line =
    has_unlisted_run place.1 place.0 listed (tokens (rest_after_token line))
breaks_searchmoves place listed word line = false

-- Ponder: a hint that is not legal after the answer.
abbrev pub breaks_ponder : Option (Position × Pondering) → EngineWord → List ℕ → Bool
breaks_ponder (Some place) engines.Best line =
    is_judged place.1
    && illegal_hint place.0 (moves_answered (engine_message line)).0 (moves_answered (engine_message line)).1
breaks_ponder place word line = false

-- The first rule that a line breaks. Infinite: an answer to a search that was to go on.
abbrev pub line_breaks : Known → List Move → EngineWord → List ℕ → Option ConductRule
line_breaks k listed word line =
    if breaks_form word line then Some rules.Form
    else (if breaks_unasked k.due word then Some rules.Unasked
    else (if breaks_late k.due word line then Some rules.Late
    else (if breaks_declared k.due word line then Some rules.Declared
    else (if is_best_word word && is_bound k.search then Some rules.Infinite
    else (if breaks_move (search_place k.search) word line then Some rules.Best
    else (if breaks_pv (search_place k.search) word line then Some rules.Pv
    else (if breaks_searchmoves (search_place k.search) listed word line then Some rules.SearchMoves
    else (if breaks_ponder (search_place k.search) word line then Some rules.Ponder
    else None))))))))
