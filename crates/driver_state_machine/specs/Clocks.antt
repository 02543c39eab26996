-- The numbers of a `go` order, and the lines that set the engine's clocks.
use Rattle.std.specs.Prelude.{ℕ, ◌+◌, ◌/◌, ◌%◌, ◌==◌, min, List, [], ◌∷◌, ◌++◌}
use Rattle.std.specs.Prelude.{codes, Bool, if◌then◌else◌, Option, Some, None}
use Rattle.std.specs.Option.{option_map}
use Rattle.std.specs.Str.{bytes_eq}
use Rattle.protocol_tokens.specs.Tokens.{tokens}
use Rattle.protocol_tokens.specs.Numbers.{signed_number}
use Rattle.chess_board.specs.declared.board.Side.{Side}
use Rattle.chess_board.specs.declared.board.Side.TheVariants.{White, Black}
use Rattle.driver_state_machine.specs.declared.words.GoClocks.{GoClocks}
use Rattle.driver_state_machine.specs.declared.clocks.GoField.{GoField}
use Rattle.driver_state_machine.specs.declared.clocks.GoField.TheVariants as fields
use Rattle.driver_state_machine.specs.declared.clocks.TheConstants.{LONGEST, MOST_MOVES}
use Rattle.driver_state_machine.specs.declared.clocks.TheConstants.{MOST_SECONDS, MOST_PLIES}
use Rattle.driver_state_machine.specs.Numbers.{natural}
use Rattle.driver_state_machine.specs.Lines.{DownLine, St, Level, Time, Otim, Sd}
use Rattle.protocol_tokens.specs.declared.numbers.TheConstants.{SECOND}

-- READING

abbrev pub go_field_named : List ℕ → GoField
go_field_named t =
    if bytes_eq t (codes "wtime") then fields.WhiteTime
    else (if bytes_eq t (codes "btime") then fields.BlackTime
    else (if bytes_eq t (codes "winc") then fields.WhiteIncrement
    else (if bytes_eq t (codes "binc") then fields.BlackIncrement
    else (if bytes_eq t (codes "movetime") then fields.MoveTime
    else (if bytes_eq t (codes "movestogo") then fields.MovesToGo
    else (if bytes_eq t (codes "depth") then fields.Depth
    else fields.Other))))))

-- the number that the tokens begin with, a negative one as 0
abbrev pub first_number : List (List ℕ) → Option ℕ
first_number [] = None
first_number (t ∷ ts) = option_map natural (signed_number t)

abbrev pub clocks_with : GoField → GoClocks → ℕ → GoClocks
clocks_with fields.WhiteTime c n = record { wtime = n; btime = c.btime; winc = c.winc; binc = c.binc; movetime = c.movetime; movestogo = c.movestogo; depth = c.depth }
clocks_with fields.BlackTime c n = record { wtime = c.wtime; btime = n; winc = c.winc; binc = c.binc; movetime = c.movetime; movestogo = c.movestogo; depth = c.depth }
clocks_with fields.WhiteIncrement c n = record { wtime = c.wtime; btime = c.btime; winc = n; binc = c.binc; movetime = c.movetime; movestogo = c.movestogo; depth = c.depth }
clocks_with fields.BlackIncrement c n = record { wtime = c.wtime; btime = c.btime; winc = c.winc; binc = n; movetime = c.movetime; movestogo = c.movestogo; depth = c.depth }
clocks_with fields.MoveTime c n = record { wtime = c.wtime; btime = c.btime; winc = c.winc; binc = c.binc; movetime = Some n; movestogo = c.movestogo; depth = c.depth }
clocks_with fields.MovesToGo c n = record { wtime = c.wtime; btime = c.btime; winc = c.winc; binc = c.binc; movetime = c.movetime; movestogo = n; depth = c.depth }
clocks_with fields.Depth c n = record { wtime = c.wtime; btime = c.btime; winc = c.winc; binc = c.binc; movetime = c.movetime; movestogo = c.movestogo; depth = n }
clocks_with fields.Other c n = c

abbrev pub set_if : GoField → GoClocks → Option ℕ → GoClocks
set_if field c None = c
set_if field c (Some n) = clocks_with field c n

-- a word and the tokens after it
abbrev pub clocks_after_word : GoField → GoClocks → List (List ℕ) → GoClocks
clocks_after_word field c ts = set_if field c (first_number ts)

abbrev pub clocks_from : GoClocks → List (List ℕ) → GoClocks
clocks_from c [] = c
clocks_from c (t ∷ ts) = clocks_from (clocks_after_word (go_field_named t) c ts) ts

-- the longest times, without increments and limits
abbrev pub no_clocks : GoClocks
no_clocks = record {
  wtime = LONGEST;
  btime = LONGEST;
  winc = 0;
  binc = 0;
  movetime = None;
  movestogo = 0;
  depth = 0;
}

-- the last number after each word counts
unfoldable pub clocks_in : List ℕ → GoClocks
clocks_in line = clocks_from no_clocks (tokens line)

-- WRITING

abbrev pub capped : ℕ → ℕ
capped time = min time LONGEST

abbrev pub seconds_up : ℕ → ℕ
seconds_up time = if time % SECOND == 0 then time / SECOND else time / SECOND + 1

abbrev pub mine : Side → GoClocks → ℕ
mine White c = c.wtime
mine Black c = c.btime

abbrev pub theirs : Side → GoClocks → ℕ
theirs White c = c.btime
theirs Black c = c.wtime

abbrev pub increment : Side → GoClocks → ℕ
increment White c = c.winc
increment Black c = c.binc

abbrev pub level_line : Side → GoClocks → DownLine
level_line side c =
    Level (min c.movestogo MOST_MOVES) (capped (mine side c) / SECOND)
    (min (increment side c / SECOND) MOST_SECONDS)

-- the time of the move alone, or the clocks
abbrev pub control_lines : Side → GoClocks → Option ℕ → List DownLine
control_lines side c (Some time) = St (min (seconds_up time) MOST_SECONDS) ∷ []
control_lines side c None =
    level_line side c ∷ Time (capped (mine side c) / 10) ∷ Otim (capped (theirs side c) / 10) ∷ []

abbrev pub depth_lines : ℕ → List DownLine
depth_lines depth = if depth == 0 then [] else Sd (min depth MOST_PLIES) ∷ []

-- the lines that set the clocks of an engine that plays a side
abbrev pub clock_lines : Side → GoClocks → List DownLine
clock_lines side c = control_lines side c c.movetime ++ depth_lines c.depth
