-- The lines to both peers.
use Rattle.std.specs.Prelude.{ℕ, ◌+◌, ◌/◌, ◌%◌, nat_lt, ◌==◌, List, [], ◌∷◌, ◌++◌, map, codes}
use Rattle.std.specs.Prelude.{decimal, Bool, ◌||◌, if◌then◌else◌, Option, Some, None}
use Rattle.std.specs.Fmt.{signed_decimal}
use Rattle.chess_board.specs.declared.board.Move.{Move as AnyMove}
use Rattle.chess_board.specs.Text.{text_of_move}
use Rattle.chess_board.specs.Position.{Position}
use Rattle.fen_text.specs.Written.{position_fen}
use Rattle.game_record.specs.Game.{Ply}
use Rattle.game_record.specs.Line.{ply_text}
use Rattle.driver_state_machine.specs.declared.words.Thought.{Thought}
use Rattle.driver_state_machine.specs.declared.up.TheConstants.{DELETE}
use Rattle.protocol_tokens.specs.Bytes.{digit_zero, blank}
use Rattle.line_io.specs.Lines.{line_feed}

-- a line to the engine
pub data DownLine : Type 0 where
  XBoard : DownLine
  Protover : DownLine
  Quit : DownLine
  New : DownLine
  Force : DownLine
  Post : DownLine
  -- a position that is set up
  SetBoard : (p : Position) → DownLine
  -- a move, after `usermove` or alone
  Played : (has_usermove : Bool) (m : Ply) → DownLine
  St : (seconds : ℕ) → DownLine
  -- moves to the time control, seconds, seconds of increment
  Level : (moves seconds increment : ℕ) → DownLine
  -- hundredths of a second
  Time : (centis : ℕ) → DownLine
  Otim : (centis : ℕ) → DownLine
  Sd : (plies : ℕ) → DownLine
  Go : DownLine
  Analyze : DownLine
  OrderMoveNow : DownLine
  Exit : DownLine
  Ping : (n : ℕ) → DownLine
  Accepted : (name : List ℕ) → DownLine
  Rejected : (name : List ℕ) → DownLine

abbrev pub two_digits : ℕ → List ℕ
two_digits n = (digit_zero + n / 10) ∷ (digit_zero + n % 10) ∷ []

-- minutes and seconds, with its line feed
abbrev pub level_text : ℕ → ℕ → ℕ → List ℕ
level_text moves seconds increment =
    codes "level " ++ decimal moves ++ codes " " ++ decimal (seconds / 60) ++ codes ":"
    ++ two_digits (seconds % 60) ++ codes " " ++ decimal increment ++ line_feed ∷ []

abbrev pub driver_move_text : Bool → List ℕ → List ℕ
driver_move_text has_usermove text = if has_usermove then codes "usermove " ++ text else text

abbrev pub option_answer_text : Bool → List ℕ → List ℕ
option_answer_text is_rejected name =
    if is_rejected then codes "rejected " ++ name else codes "accepted " ++ name

abbrev pub up_line_with_feed : List ℕ → List ℕ
up_line_with_feed text = text ++ line_feed ∷ []

-- the text of a line, with its line feed
abbrev pub driver_line_text : DownLine → List ℕ
driver_line_text XBoard = up_line_with_feed (codes "xboard")
driver_line_text Protover = up_line_with_feed (codes "protover 2")
driver_line_text Quit = up_line_with_feed (codes "quit")
driver_line_text New = up_line_with_feed (codes "new")
driver_line_text Force = up_line_with_feed (codes "force")
driver_line_text Post = up_line_with_feed (codes "post")
driver_line_text (SetBoard p) = up_line_with_feed (codes "setboard " ++ position_fen p)
driver_line_text (Played has_usermove m) = up_line_with_feed (driver_move_text has_usermove (ply_text m))
driver_line_text (St seconds) = codes "st " ++ decimal seconds ++ line_feed ∷ []
driver_line_text (Level moves seconds increment) = level_text moves seconds increment
driver_line_text (Time centis) = codes "time " ++ decimal centis ++ line_feed ∷ []
driver_line_text (Otim centis) = codes "otim " ++ decimal centis ++ line_feed ∷ []
driver_line_text (Sd plies) = codes "sd " ++ decimal plies ++ line_feed ∷ []
driver_line_text Go = up_line_with_feed (codes "go")
driver_line_text Analyze = up_line_with_feed (codes "analyze")
driver_line_text OrderMoveNow = up_line_with_feed (codes "?")
driver_line_text Exit = up_line_with_feed (codes "exit")
driver_line_text (Ping n) = codes "ping " ++ decimal n ++ line_feed ∷ []
driver_line_text (Accepted name) = up_line_with_feed (codes "accepted " ++ name)
driver_line_text (Rejected name) = up_line_with_feed (codes "rejected " ++ name)

abbrev pub lines_text : List DownLine → List ℕ
lines_text [] = []
lines_text (l ∷ ls) = driver_line_text l ++ lines_text ls

-- THE LINES TO THE INTERFACE, WITHOUT LINE FEEDS

abbrev pub bestmove_line_text : Option AnyMove → List ℕ
bestmove_line_text None = codes "bestmove 0000"
bestmove_line_text (Some m) = codes "bestmove " ++ text_of_move m

abbrev pub figures_text : Thought → List ℕ
figures_text t =
    (codes "info depth " ++ decimal t.depth)
    ++ ((codes " score cp " ++ signed_decimal t.score)
    ++ ((codes " time " ++ decimal t.time) ++ (codes " nodes " ++ decimal t.nodes)))

abbrev pub info_text : Thought → List ℕ
info_text t = figures_text t ++ (codes " pv " ++ text_of_move t.best)

-- the engine's name, or one for an engine that has none
abbrev pub name_or_usual : List ℕ → List ℕ
name_or_usual [] = codes "CECP engine"
name_or_usual (b ∷ bs) = b ∷ bs

-- a control character is written as a blank
abbrev pub blanked_byte : ℕ → ℕ
blanked_byte b = if nat_lt b blank || b == DELETE then blank else b

abbrev pub blanked_text : List ℕ → List ℕ
blanked_text bytes = map blanked_byte bytes

-- the name that the interface is given
abbrev pub id_text : List ℕ → List ℕ
id_text name = codes "id name " ++ blanked_text (name_or_usual name)
