-- The lines to an engine as an engine reads them: messages of CECP.
use Rattle.std.specs.Prelude.{◌≡◌, ℕ, pos, ◌*◌, ◌/◌, ◌%◌, List, [], ◌∷◌}
use Rattle.std.specs.Prelude.{◌++◌, codes, decimal, false, Result, Ok, Err}
use Rattle.line_io.specs.Event.{has_feed}
use Rattle.chess_board.specs.declared.board.Move.{Move}
use Rattle.chess_board.specs.Position.{Position}
use Rattle.chess_board.specs.Play.{start_position}
use Rattle.fen_text.specs.declared.fault.FenFault.{FenFault}
use Rattle.fen_text.specs.Fen.{position_of}
use Rattle.fen_text.specs.Written.{position_fen}
use Rattle.game_record.specs.Game.{Game, game_from, ply_of, with_ply}
use Rattle.game_record.specs.Line.{ply_text}
use Rattle.cecp_lines.specs.Messages.{IfaceMsg}
use Rattle.cecp_lines.specs.Messages as says
use Rattle.cecp_lines.specs.Reading.{SpellsIfaceMsg}
use Rattle.driver_state_machine.specs.Lines.{DownLine, XBoard, Protover, Quit, New, Force, Post}
use Rattle.driver_state_machine.specs.Lines.{SetBoard, Played, St, Level, Time, Otim, Sd, Go}
use Rattle.driver_state_machine.specs.Lines.{Analyze, OrderMoveNow, Exit, Ping, Accepted, Rejected}
use Rattle.driver_state_machine.specs.Lines.{up_line_with_feed, driver_line_text, driver_move_text, two_digits}
use Rattle.cecp_driver.specs.EngineGame.{game_set_by}
use Rattle.cecp_driver.specs.Said.{EngineLineCanBeRead}
use Rattle.protocol_tokens.specs.declared.numbers.TheConstants.{SECOND}

-- the text of a line, without its line feed
abbrev pub text_without_feed : DownLine → List ℕ
text_without_feed XBoard = codes "xboard"
text_without_feed Protover = codes "protover 2"
text_without_feed Quit = codes "quit"
text_without_feed New = codes "new"
text_without_feed Force = codes "force"
text_without_feed Post = codes "post"
text_without_feed (SetBoard p) = codes "setboard " ++ position_fen p
text_without_feed (Played has_usermove m) = driver_move_text has_usermove (ply_text m)
text_without_feed (St seconds) = codes "st " ++ decimal seconds
text_without_feed (Level moves seconds increment) =
    codes "level " ++ decimal moves ++ codes " " ++ decimal (seconds / 60) ++ codes ":"
    ++ two_digits (seconds % 60) ++ codes " " ++ decimal increment
text_without_feed (Time centis) = codes "time " ++ decimal centis
text_without_feed (Otim centis) = codes "otim " ++ decimal centis
text_without_feed (Sd plies) = codes "sd " ++ decimal plies
text_without_feed Go = codes "go"
text_without_feed Analyze = codes "analyze"
text_without_feed OrderMoveNow = codes "?"
text_without_feed Exit = codes "exit"
text_without_feed (Ping n) = codes "ping " ++ decimal n
text_without_feed (Accepted name) = codes "accepted " ++ name
text_without_feed (Rejected name) = codes "rejected " ++ name

-- the message that a line is
abbrev pub IsMessage : DownLine → IfaceMsg → Type 0
IsMessage Protover msg = msg ≡ says.Protover 2
IsMessage Quit msg = msg ≡ says.Quit
IsMessage New msg = msg ≡ says.New
IsMessage Force msg = msg ≡ says.Force
IsMessage Post msg = msg ≡ says.Post
IsMessage (SetBoard p) msg =
    (text : List ℕ) × ((msg ≡ says.SetBoard text) × (position_of text ≡ Ok p))
IsMessage (Played has_usermove m) msg =
    (move : Move) × ((ply_of move ≡ m) × (msg ≡ says.UserMove move))
IsMessage (St seconds) msg = msg ≡ says.St (seconds * SECOND)
IsMessage (Level moves seconds increment) msg =
    msg ≡ says.Level moves (seconds * SECOND) (increment * SECOND)
IsMessage (Time centis) msg = msg ≡ says.Time (pos centis)
IsMessage (Otim centis) msg = msg ≡ says.Otim (pos centis)
IsMessage (Sd plies) msg = msg ≡ says.Sd plies
IsMessage Go msg = msg ≡ says.Go
IsMessage Analyze msg = msg ≡ says.Analyze
IsMessage OrderMoveNow msg = msg ≡ says.MoveNow
IsMessage Exit msg = msg ≡ says.Exit
IsMessage (Ping n) msg = msg ≡ says.Ping n
IsMessage line msg = (text : List ℕ) × (msg ≡ says.Ignored text)

-- the effect of a message on the game of an engine that takes it
abbrev pub game_at_position : Game → Result Position FenFault → Game
game_at_position g (Ok p) = game_from p
game_at_position g (Err fault) = g

abbrev pub game_by : Game → IfaceMsg → Game
game_by g says.New = game_from start_position
game_by g (says.SetBoard text) = game_at_position g (position_of text)
game_by g (says.UserMove m) = with_ply g (ply_of m)
game_by g msg = g

-- A line, its text and its message: the text is one line, that spells the message, and the message
-- does to each game what the line does.
pub record IsCecp (line : DownLine) (msg : IfaceMsg) : Type 0 where
  pub whole : driver_line_text line ≡ up_line_with_feed (text_without_feed line)
  pub no_feed : has_feed (text_without_feed line) ≡ false
  pub spelled : SpellsIfaceMsg (text_without_feed line) msg
  pub is : IsMessage line msg
  pub sets : (g : Game) → game_set_by g line ≡ game_by g msg

abbrev pub LinesAreCecp : Type 0
LinesAreCecp = (line : DownLine) → EngineLineCanBeRead line → (msg : IfaceMsg) × IsCecp line msg
