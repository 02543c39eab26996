-- The invariant of a game.
use Rattle.std.specs.Prelude.{ℕ, ◌≡◌, ◌+◌, ◌-◌, ◌<◌, ◌≤◌, Option, List, [], ◌∷◌}
use Rattle.std.specs.Prelude.{◌++◌, length, take, slice_index, slice_index_or}
use Rattle.chess_board.specs.Position.{Position}
use Rattle.game_record.specs.Game.{Ply, position_after_ply, later, AreLegal}
use Rattle.game_record.specs.Ending.{stood_in, ended_of}
use Rattle.game_record.specs.declared.ending.GameEnd.{GameEnd}
use Rattle.game_record.specs.declared.game.TheConstants.{MOST_PLIES}

-- the most moves of a game
abbrev pub most_plies : ℕ
most_plies = MOST_PLIES

-- how often the position after each move then stood, if these stood before the first
abbrev pub repetitions_of : List Position → Position → List Ply → List ℕ
repetitions_of before p [] = []
repetitions_of before p (m ∷ moves) =
    stood_in (position_after_ply p m) (before ++ position_after_ply p m ∷ [])
    ∷ repetitions_of (before ++ position_after_ply p m ∷ []) (position_after_ply p m) moves

-- the positions from before the last pawn's move or capture, by the half-move count of
-- the one that follows them
abbrev pub left_behind : Position → List Position → List Position
left_behind p positions = take (length positions - p.half) positions

-- with each position how often it then stood
pub record AreTimes (start : Position) (positions : List Position) (times : List ℕ) : Type 0 where
  pub length_is : length times ≡ length positions
  pub each : (k : ℕ) → k < length positions
      → slice_index times k
      ≡ stood_in (slice_index_or positions k start) (start ∷ take (k + 1) positions)

-- the positions are those after the moves, with their times, the end is the game's, and
-- there is room for more of all
pub record GameInvariant (start : Position) (moves : List Ply) (positions : List Position) (times : List ℕ)
    (ended : Option GameEnd) (move_room position_room time_room : ℕ) : Type 0 where
  pub positions_are : positions ≡ later start moves
  pub times_are : times ≡ repetitions_of (start ∷ []) start moves
  pub ended_is : ended ≡ ended_of (record { start = start; moves = moves })
  pub legal : AreLegal start moves
  pub few : length moves ≤ most_plies
  pub move_room_is : most_plies ≤ move_room
  pub position_room_is : most_plies ≤ position_room
  pub time_room_is : most_plies ≤ time_room
