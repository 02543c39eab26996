-- The lines of a script of version 1 that is played to an engine that is started again.
use Rattle.std.specs.Prelude.{◌≡◌, ℕ, ◌+◌, List, [], ◌∷◌, ◌++◌, length}
use Rattle.std.specs.Prelude.{true, false, Option, Some, None, is_some}
use Rattle.std.specs.List.{AllByRecursion, flat_map}
use Rattle.line_io.specs.Event.{Event}
use Rattle.line_io.specs.Lines.{Piece, Whole, TooLong}
use Rattle.script_lines.specs.Marks.{Mark, Happens, mark_spelled}
use Rattle.replay_command_base.specs.declared.ending.Ending.{Ending}
use Rattle.replay_command_base.specs.declared.ending.Ending.TheVariants as endings
use Rattle.engine_revival.specs.declared.state.RevivalState.{RevivalState}
use Rattle.engine_revival.specs.Steps.{opening_revival}
use Rattle.engine_revival.specs.Script.{AllMayHappen, may_happen, revival_script, state_behind}

-- the mark of a line
abbrev pub mark_to_play : Piece → Option Mark
mark_to_play (Whole line) = mark_spelled line
mark_to_play TooLong = None

-- the event that a mark is of; the mark of a line that was written is of none
abbrev pub event_by : Option Mark → List Event
event_by (Some (Happens event)) = event ∷ []
event_by mark = []

-- the events of lines, in their order
abbrev pub played_events : List Piece → List Event
played_events lines = flat_map (λ line. event_by (mark_to_play line)) lines

-- the state of the engine behind lines
abbrev pub state_over : ℕ → List Piece → RevivalState
state_over lives lines = state_behind (opening_revival lives) (played_events lines)

-- Each line has a mark, and each event may come at its place.
pub record ArePlayed (lives : ℕ) (lines : List Piece) : Type 0 where
  pub marked : AllByRecursion (λ line. is_some (mark_to_play line) ≡ true) lines
  pub may_come : AllMayHappen (opening_revival lives) (played_events lines)

-- The text written for lines: for each event its mark, and those of the lines that it brings.
abbrev pub revival_of_lines : ℕ → List Piece → List ℕ
revival_of_lines lives lines = revival_script lives (played_events lines)

-- Why a line with this number is not played in this state: it has no mark,
-- or its event may not come.
abbrev pub IsReasonNotToPlay : RevivalState → ℕ → Piece → Ending → Type 0
IsReasonNotToPlay s number line (endings.NoMark n) = (n ≡ number) × (mark_to_play line ≡ None)
IsReasonNotToPlay s number line (endings.MayNotCome n) =
    (n ≡ number)
    × ((event : Event) × (mark_to_play line ≡ Some (Happens event)) × (may_happen s event ≡ false))
IsReasonNotToPlay s number line ending = ⊥

-- The last of these lines is the first one that is not played, for this reason.
pub record IsFirstUnplayed (lives : ℕ) (lines : List Piece) (fault : Ending) : Type 0 where
  pub before : List Piece
  pub line : Piece
  pub lines_are : lines ≡ before ++ line ∷ []
  pub played : ArePlayed lives before
  pub reason : IsReasonNotToPlay (state_over lives before) (length before + 1) line fault
