-- The game as written to the engine, and how a game is set up.
use Rattle.std.specs.Prelude.{ℕ, ◌==◌, Bool, true, false, not, ◌&&◌, ◌||◌, if◌then◌else◌}
use Rattle.std.specs.Prelude.{List, [], ◌∷◌, ◌++◌, map, is_some, Option, Some, None}
use Rattle.chess_board.specs.Position.{Position}
use Rattle.chess_board.specs.Play.{start_position}
use Rattle.game_record.specs.Game.{Ply, Game, game_from, with_ply}
use Rattle.game_record.specs.Line.{is_standard}
use Rattle.driver_state_machine.specs.Lines.{DownLine, New, Force, Post, SetBoard, Played}
use Rattle.cecp_driver.specs.Same.{same_position, same_ply}

-- The engine's game: if it is known, if the engine has a depth limit, and the
-- game that it was given last.
pub record SentGame : Type 0 where
  pub known : Bool
  pub limited : Bool
  pub game : Game

abbrev pub no_game_sent : SentGame
no_game_sent = record { known = false; limited = false; game = game_from start_position }

-- the moves after those that are known, if the others begin with these
abbrev pub further : List Ply → List Ply → Option (List Ply)
further [] moves = Some moves
further (k ∷ ks) [] = None
further (k ∷ ks) (m ∷ moves) = if same_ply k m then further ks moves else None

-- The moves by which a game goes on from the one that is known. A depth limit that the search does
-- not have can only be taken away by a new game.
abbrev pub continued : SentGame → Game → Bool → Option (List Ply)
continued sent_game game has_depth =
    if (sent_game.known && not (sent_game.limited && not has_depth))
    && same_position sent_game.game.start game.start
    then further sent_game.game.moves game.moves
    else None

abbrev pub ply_lines : Bool → List Ply → List DownLine
ply_lines has_usermove [] = []
ply_lines has_usermove (m ∷ moves) = Played has_usermove m ∷ ply_lines has_usermove moves

abbrev pub start_lines : Position → List DownLine
start_lines start = if is_standard start then [] else SetBoard start ∷ []

-- the further moves alone, or all of the game
abbrev pub setup_lines : Option (List Ply) → Bool → Game → List DownLine
setup_lines (Some moves) has_usermove game = Force ∷ ply_lines has_usermove moves
setup_lines None has_usermove game =
    New ∷ Force ∷ Post ∷ (start_lines game.start ++ ply_lines has_usermove game.moves)

-- after a set-up
abbrev pub set_up : SentGame → Game → Bool → SentGame
set_up sent_game game has_depth = record {
  known = true;
  limited = is_some (continued sent_game game has_depth) && sent_game.limited;
  game = game;
}

abbrev pub sent_with_limit : SentGame → Bool → SentGame
sent_with_limit sent_game has_depth = record {
  known = sent_game.known;
  limited = sent_game.limited || has_depth;
  game = sent_game.game;
}

-- after a legal move of the engine
abbrev pub sent_after_ply : SentGame → Ply → SentGame
sent_after_ply sent_game m =
    record { known = sent_game.known; limited = sent_game.limited; game = with_ply sent_game.game m }

abbrev pub sent_without_game : SentGame → SentGame
sent_without_game sent_game = record { known = false; limited = sent_game.limited; game = sent_game.game }
