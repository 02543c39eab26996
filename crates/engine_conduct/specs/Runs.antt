-- The lines of moves that an engine reports (UCI, April 2006, "info").
use Rattle.std.specs.Prelude.{ℕ, List, [], ◌∷◌, Bool, true, false, not, ◌&&◌, if◌then◌else◌}
use Rattle.std.specs.Prelude.{Option, Some, None}
use Rattle.chess_board.specs.declared.board.Move.{Move}
use Rattle.chess_board.specs.Position.{Position}
use Rattle.chess_board.specs.Place.{after_if_legal, legal}
use Rattle.uci_lines.specs.Moves.{longest_move_run}
use Rattle.engine_conduct.specs.declared.search.Pondering.{Pondering}
use Rattle.engine_conduct.specs.declared.search.Pondering.TheVariants as ponderings
use Rattle.engine_conduct.specs.declared.words.InfoWord.{InfoWord}
use Rattle.engine_conduct.specs.declared.words.InfoWord.TheVariants as infos
use Rattle.engine_conduct.specs.Forms.{behind_number, is_text_word}
use Rattle.engine_conduct.specs.Listed.{is_unlisted}
use Rattle.engine_conduct.specs.Words.{info_word}

-- moves, each legal in its turn
abbrev pub are_legal : Option Position → List Move → Bool
are_legal None moves = false
are_legal (Some p) [] = true
are_legal (Some p) (m ∷ moves) = are_legal (after_if_legal p m) moves

-- What follows a word of `info` and is a line from the position of the search. An engine that ponders
-- may think of another move of its opponent, but not show that as its main line.
abbrev pub run_behind : Pondering → Option InfoWord → List (List ℕ) → List (List ℕ)
run_behind pondering (Some infos.Pv) ts = ts
run_behind ponderings.No (Some infos.CurrMove) ts = ts
run_behind ponderings.No (Some infos.Refutation) ts = ts
run_behind ponderings.No (Some infos.CurrLine) ts = behind_number ts
run_behind pondering word ts = []

-- before the first `string`, a line that has a move which is not legal in its turn
abbrev pub has_illegal_run : Pondering → Position → List (List ℕ) → Bool
has_illegal_run pondering p [] = false
has_illegal_run pondering p (t ∷ ts) =
    if is_text_word (info_word t) then false
    else (if not (are_legal (Some p) (longest_move_run (run_behind pondering (info_word t) ts))) then true
    else has_illegal_run pondering p ts)

abbrev pub starts_unlisted : Position → List Move → List Move → Bool
starts_unlisted p listed [] = false
starts_unlisted p listed (m ∷ moves) = legal p m && is_unlisted listed m

-- before the first `string`, a line whose first move is legal and was not to be searched
abbrev pub has_unlisted_run : Pondering → Position → List Move → List (List ℕ) → Bool
has_unlisted_run pondering p listed [] = false
has_unlisted_run pondering p listed (t ∷ ts) =
    if is_text_word (info_word t) then false
    else (if starts_unlisted p listed (longest_move_run (run_behind pondering (info_word t) ts)) then true
    else has_unlisted_run pondering p listed ts)
