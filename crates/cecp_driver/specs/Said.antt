-- The texts that can be said in a line to the engine.
use Rattle.std.specs.Prelude.{◌≡◌, ℕ, ◌<◌, ◌≤◌, ◌*◌, ◌^◌, List, length, true, false}
use Rattle.chess_board.specs.declared.board.Move.{Move}
use Rattle.fen_text.specs.Written.{IsNormal}
use Rattle.chess_board.specs.Text.{IsOfficer}
use Rattle.game_record.specs.Game.{Ply, ply_of}
use Rattle.line_io.specs.Event.{has_feed}
use Rattle.protocol_tokens.specs.Tokens.{is_token}
use Rattle.driver_state_machine.specs.Lines.{DownLine, SetBoard, Played, St, Level}
use Rattle.driver_state_machine.specs.Lines.{Time, Otim, Sd, Ping, Accepted, Rejected}
use Rattle.cecp_driver.specs.declared.driver.TheConstants.{LINE_LIMIT}

-- a move of squares and officers
abbrev pub IsMove : Ply → Type 0
IsMove m = (move : Move) × ((ply_of move ≡ m) × IsOfficer move.promotion)

-- a name in a line: it has neither white space nor a line feed
pub record IsName (name : List ℕ) : Type 0 where
  pub token : is_token name ≡ true
  pub one_line : has_feed name ≡ false
  pub short : length name ≤ LINE_LIMIT

-- a position, a move, numbers of so many digits, a name
abbrev pub EngineLineCanBeRead : DownLine → Type 0
EngineLineCanBeRead (SetBoard p) = IsNormal p
EngineLineCanBeRead (Played has_usermove m) = IsMove m
EngineLineCanBeRead (St seconds) = seconds < 10 ^ 6
EngineLineCanBeRead (Level moves seconds increment) =
    (moves < 10 ^ 4) × (seconds < 60 * 10 ^ 4) × (increment < 10 ^ 6)
EngineLineCanBeRead (Time centis) = centis < 10 ^ 9
EngineLineCanBeRead (Otim centis) = centis < 10 ^ 9
EngineLineCanBeRead (Sd plies) = plies < 10 ^ 9
EngineLineCanBeRead (Ping n) = n < 10 ^ 9
EngineLineCanBeRead (Accepted name) = IsName name
EngineLineCanBeRead (Rejected name) = IsName name
EngineLineCanBeRead line = Unit {0}
