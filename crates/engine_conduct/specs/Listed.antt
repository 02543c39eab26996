-- The moves to which a search is restricted (UCI, April 2006, "searchmoves").
use Rattle.std.specs.Prelude.{ℕ, List, [], ◌∷◌, ◌++◌, length, codes, Bool, not, ◌&&◌, ◌==◌, true, false}
use Rattle.std.specs.Prelude.{if◌then◌else◌, Option, Some, None}
use Rattle.chess_board.specs.declared.board.Move.{Move}
use Rattle.chess_board.specs.Position.{Position}
use Rattle.chess_board.specs.Place.{legal}
use Rattle.search_epochs.specs.Tickets.{same_move}
use Rattle.uci_lines.specs.Moves.{longest_move_run}
use Rattle.engine_conduct.specs.Words.{behind_word}
use Rattle.engine_conduct.specs.declared.listed.TheConstants.{MOST_LISTED}

abbrev pub is_listed : List Move → Move → Bool
is_listed [] m = false
is_listed (first ∷ rest) m = if same_move first m then true else is_listed rest m

-- there is a list, and the move is not in it
abbrev pub is_unlisted : List Move → Move → Bool
is_unlisted listed m = not (length listed == 0) && not (is_listed listed m)

-- with a move that is legal and not yet there, as long as there is room
abbrev pub add_listed : Position → List Move → Move → List Move
add_listed p listed m =
    if (legal p m && not (is_listed listed m)) && not (length listed == MOST_LISTED)
    then listed ++ m ∷ [] else listed

abbrev pub listed_from : Position → List Move → List Move → List Move
listed_from p listed [] = listed
listed_from p listed (m ∷ moves) = listed_from p (add_listed p listed m) moves

-- with the moves with which these tokens begin
abbrev pub listed_with_run : Position → List Move → List (List ℕ) → List Move
listed_with_run p listed ts = listed_from p listed (longest_move_run ts)

abbrev pub listed_behind : Position → Option (List (List ℕ)) → List Move
listed_behind p None = []
listed_behind p (Some ts) = listed_with_run p [] ts

-- the legal ones of the move texts directly behind the first `searchmoves`
abbrev pub listed_in : Position → List (List ℕ) → List Move
listed_in p ts = listed_behind p (behind_word (codes "searchmoves") ts)
