-- The lines of an action, and what the engine knows by it.
use Rattle.std.specs.Prelude.{ℕ, ◌≤◌, ◌==◌, Bool, false, true, not, if◌then◌else◌, List}
use Rattle.std.specs.Prelude.{[], ◌∷◌, ◌++◌, length, codes, Option, Some, None, IfSome}
use Rattle.chess_board.specs.declared.board.Move.{Move}
use Rattle.chess_board.specs.Text.{IsOfficer}
use Rattle.game_record.specs.Game.{Game, current_position, ply_of}
use Rattle.driver_state_machine.specs.declared.words.GoClocks.{GoClocks}
use Rattle.driver_state_machine.specs.declared.words.ToIface.{ToIface}
use Rattle.driver_state_machine.specs.declared.words.ToIface.TheVariants as ups
use Rattle.driver_state_machine.specs.declared.words.ToEngine.{ToEngine}
use Rattle.driver_state_machine.specs.declared.words.ToEngine.TheVariants as downs
use Rattle.driver_state_machine.specs.declared.words.BoardChange.{BoardChange}
use Rattle.driver_state_machine.specs.declared.words.BoardChange.TheVariants as boards
use Rattle.driver_state_machine.specs.Lines.{DownLine, XBoard, Protover, Quit, Force, Go, Analyze}
use Rattle.driver_state_machine.specs.Lines.{OrderMoveNow, Exit, Ping, bestmove_line_text, info_text, up_line_with_feed}
use Rattle.driver_state_machine.specs.Clocks.{clock_lines}
use Rattle.cecp_driver.specs.SetUp.{SentGame, continued, setup_lines, set_up}
use Rattle.cecp_driver.specs.SetUp.{sent_with_limit, sent_after_ply, sent_without_game}
use Rattle.cecp_driver.specs.declared.sent_game.TheConstants.{MOST_PLIES}

abbrev pub has_depth : GoClocks → Bool
has_depth c = not (c.depth == 0)

-- TO THE INTERFACE

abbrev pub up_text : ToIface → List ℕ
up_text ups.Nothing = []
up_text ups.Ready = up_line_with_feed (codes "readyok")
up_text (ups.Best best) = up_line_with_feed (bestmove_line_text best)
up_text (ups.Info thought) = up_line_with_feed (info_text thought)

-- the moves have texts
abbrev pub CanSay : ToIface → Type 0
CanSay (ups.Best best) = IfSome best (λ m. IsOfficer m.promotion)
CanSay (ups.Info thought) = IsOfficer thought.best.promotion
CanSay up = Unit {0}

-- TO THE ENGINE

abbrev pub move_now_lines : Bool → List DownLine
move_now_lines at_once = if at_once then OrderMoveNow ∷ [] else []

abbrev pub leave_lines : Option ℕ → List DownLine
leave_lines None = []
leave_lines (Some n) = Exit ∷ Ping n ∷ []

abbrev pub think_lines : Game → GoClocks → Bool → List DownLine
think_lines game clocks at_once =
    clock_lines (current_position game).side clocks ++ (Go ∷ move_now_lines at_once)

abbrev pub play_lines : SentGame → Game → Bool → GoClocks → Bool → List DownLine
play_lines sent_game game has_usermove clocks at_once =
    setup_lines (continued sent_game game (has_depth clocks)) has_usermove game
    ++ think_lines game clocks at_once

abbrev pub analyse_lines : SentGame → Game → Bool → GoClocks → Option ℕ → List DownLine
analyse_lines sent_game game has_usermove clocks ping =
    setup_lines (continued sent_game game (has_depth clocks)) has_usermove game
    ++ (Analyze ∷ leave_lines ping)

-- the lines that are written, by what the engine was given before, and the ordered game
abbrev pub down_lines : SentGame → Game → Bool → ToEngine → List DownLine
down_lines sent_game game has_usermove downs.Nothing = []
down_lines sent_game game has_usermove downs.Greeting = XBoard ∷ Protover ∷ []
down_lines sent_game game has_usermove downs.Quit = Quit ∷ []
down_lines sent_game game has_usermove (downs.Play clocks at_once) =
    play_lines sent_game game has_usermove clocks at_once
down_lines sent_game game has_usermove (downs.Resume clocks) = think_lines game clocks false
down_lines sent_game game has_usermove (downs.Analyse clocks ping) =
    analyse_lines sent_game game has_usermove clocks ping
down_lines sent_game game has_usermove downs.OrderMoveNow = OrderMoveNow ∷ []
down_lines sent_game game has_usermove (downs.Leave ping) = Exit ∷ Ping ping ∷ []
down_lines sent_game game has_usermove (downs.Retreat ping) = Force ∷ Ping ping ∷ []

-- a game that is set up has no more moves than are searched
abbrev pub FitsDown : Game → ToEngine → Type 0
FitsDown game (downs.Play clocks at_once) = length game.moves ≤ MOST_PLIES
FitsDown game (downs.Analyse clocks ping) = length game.moves ≤ MOST_PLIES
FitsDown game down = Unit {0}

-- the line that the engine was given then
abbrev pub sent_after_line : Game → ToEngine → SentGame → SentGame
sent_after_line game (downs.Play clocks at_once) sent_game =
    sent_with_limit (set_up sent_game game (has_depth clocks)) (has_depth clocks)
sent_after_line game (downs.Resume clocks) sent_game = sent_with_limit sent_game (has_depth clocks)
sent_after_line game (downs.Analyse clocks ping) sent_game = set_up sent_game game (has_depth clocks)
sent_after_line game down sent_game = sent_game

abbrev pub sent_after_board : BoardChange → SentGame → SentGame
sent_after_board boards.Same sent_game = sent_game
sent_after_board (boards.Moved m) sent_game = sent_after_ply sent_game (ply_of m)
sent_after_board boards.Lost sent_game = sent_without_game sent_game

-- there is room for the engine's move
abbrev pub CanPush : BoardChange → SentGame → Type 0
CanPush (boards.Moved m) sent_game = length sent_game.game.moves ≤ MOST_PLIES
CanPush board sent_game = Unit {0}
