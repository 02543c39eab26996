-- The meaning of the lines of a script.
use Rattle.std.specs.Prelude.{ℕ, ◌+◌, ◌==◌, List, [], ◌∷◌, if◌then◌else◌, Option, Some, None}
use Rattle.line_io.specs.Event.{Event, Open}
use Rattle.line_io.specs.Lines.{Piece, Whole, TooLong}
use Rattle.policy_rules.specs.declared.setting_rules.settings.Settings.{Settings}
use Rattle.script_lines.specs.Header.{header_of}
use Rattle.script_lines.specs.Marks.{Mark, Happens, mark_spelled}
use Rattle.script_lines.specs.StepLine.{step_number, step_of}
use Rattle.adapter_core.specs.declared.ends.Ends.{Ends}
use Rattle.adapter_core.specs.Ends.{may, ends_after, at_start}
use Rattle.adapter_core.specs.Trace.{Step}
use Rattle.trace_scripts.specs.Script.{script1, script2}
use Rattle.replay_command_base.specs.declared.ending.Ending.{Ending}
use Rattle.replay_command_base.specs.declared.ending.Ending.TheVariants as endings
use Rattle.script_replay.specs.declared.stage.ScriptStage.{ScriptStage}
use Rattle.script_replay.specs.declared.stage.ScriptStage.TheVariants as stages

-- A LINE BY ITSELF

-- the mark of an event, the mark of a line that was written, the number of a
-- step, or nothing of these
pub data LineKind : Type 0 where
  MarksEvent : (event : Event) → LineKind
  Writes : LineKind
  Numbers : (number : ℕ) → LineKind
  HasNone : LineKind

abbrev pub script_line_kind_by : Option Mark → Option ℕ → LineKind
script_line_kind_by (Some (Happens e)) number = MarksEvent e
script_line_kind_by (Some m) number = Writes
script_line_kind_by None (Some n) = Numbers n
script_line_kind_by None None = HasNone

abbrev pub kind_of_script_line : Piece → LineKind
kind_of_script_line (Whole line) = script_line_kind_by (mark_spelled line) (step_of line)
kind_of_script_line TooLong = HasNone

-- THE VERSION OF A SCRIPT

-- version 1, or version 2 or 3 with the settings of its header
pub data Version : Type 0 where
  First : Version
  Second : (settings : Settings) → Version

abbrev pub version_by : Option Settings → Version
version_by None = First
version_by (Some settings) = Second settings

-- it is of version 2 or 3 if its first line is a header
abbrev pub version_in : List Piece → Version
version_in (Whole line ∷ lines) = version_by (header_of line)
version_in lines = First

-- the lines after the header
abbrev pub behind_header : Version → List Piece → List Piece
behind_header First lines = lines
behind_header (Second settings) (header ∷ lines) = lines
behind_header (Second settings) [] = []

abbrev pub header_lines : Version → ℕ
header_lines First = 0
header_lines (Second settings) = 1

-- the settings are the header's, and else these
abbrev pub settings_by : Version → Settings → Settings
settings_by First o = o
settings_by (Second settings) o = settings

abbrev pub script_by : Version → List Step → List ℕ
script_by First trace = script1 trace
script_by (Second settings) trace = script2 settings trace

-- THE LINES IN ORDER

-- where a reading stands: the stage, and the sides after the events that came
pub record ScriptPlace : Type 0 where
  pub stage : ScriptStage
  pub ends : Ends

-- the meaning of a line there: an event that may come, a line that was written, the number of the
-- step that comes, or a fault
pub data LineSaid : Type 0 where
  Comes : (event : Event) → LineSaid
  Passes : LineSaid
  Starts : (number : ℕ) → LineSaid
  HasNoMark : LineSaid
  IsOutOfStep : LineSaid
  Cannot : LineSaid

abbrev pub event_says : Ends → Event → LineSaid
event_says ends e = if may ends e then Comes e else Cannot

abbrev pub number_says : ℕ → ℕ → LineSaid
number_says due number = if number == due then Starts number else IsOutOfStep

-- In version 1 marks come in any order. With a header step 0 comes after the header, and then step
-- by step its number, the mark of its event, and the lines that it wrote. Open is the event of
-- step 0, and has no mark.
abbrev pub kind_says : ScriptStage → Ends → LineKind → LineSaid
kind_says stages.Start ends kind = HasNoMark
kind_says stages.Plain ends (MarksEvent e) = event_says ends e
kind_says stages.Plain ends Writes = Passes
kind_says stages.Plain ends (Numbers n) = HasNoMark
kind_says stages.Plain ends HasNone = HasNoMark
kind_says stages.Headed ends (Numbers n) = number_says 0 n
kind_says stages.Headed ends HasNone = HasNoMark
kind_says stages.Headed ends kind = IsOutOfStep
kind_says (stages.AfterEvent last) ends Writes = Passes
kind_says (stages.AfterEvent last) ends (Numbers n) = number_says (step_number (last + 1)) n
kind_says (stages.AfterEvent last) ends HasNone = HasNoMark
kind_says (stages.AfterEvent last) ends (MarksEvent e) = IsOutOfStep
kind_says (stages.Numbered number) ends (MarksEvent e) = event_says ends e
kind_says (stages.Numbered number) ends HasNone = HasNoMark
kind_says (stages.Numbered number) ends kind = IsOutOfStep

abbrev pub line_says : ScriptPlace → Piece → LineSaid
line_says place line = kind_says place.stage place.ends (kind_of_script_line line)

abbrev pub stage_started : ScriptStage → ℕ → ScriptStage
stage_started stages.Headed number = stages.AfterEvent number
stage_started stage number = stages.Numbered number

abbrev pub stage_after_event : ScriptStage → ScriptStage
stage_after_event (stages.Numbered number) = stages.AfterEvent number
stage_after_event stage = stage

abbrev pub place_said : ScriptPlace → LineSaid → ScriptPlace
place_said place (Comes e) = record {
  stage = stage_after_event place.stage;
  ends = ends_after place.ends e;
}
place_said place (Starts number) = record {
  stage = stage_started place.stage number;
  ends = place.ends;
}
place_said place s = place

-- where the reading stands after lines
abbrev pub place_over : ScriptPlace → List Piece → ScriptPlace
place_over place [] = place
place_over place (l ∷ ls) = place_over (place_said place (line_says place l)) ls

-- the fault of the line with this number
abbrev pub fault_said : ℕ → LineSaid → Option Ending
fault_said n HasNoMark = Some (endings.NoMark n)
fault_said n IsOutOfStep = Some (endings.OutOfStep n)
fault_said n Cannot = Some (endings.MayNotCome n)
fault_said n s = None

abbrev pub or_later : Option Ending → Option Ending → Option Ending
or_later None later = later
or_later (Some e) later = Some e

-- the first line that has no mark, is out of step or whose event may not come, if the
-- first line has this number
abbrev pub first_fault : ℕ → ScriptPlace → List Piece → Option Ending
first_fault n place [] = None
first_fault n place (l ∷ ls) =
    or_later (fault_said n (line_says place l))
    (first_fault (n + 1) (place_said place (line_says place l)) ls)

abbrev pub events_said : LineSaid → List Event → List Event
events_said (Comes e) later = e ∷ later
events_said Passes later = later
events_said (Starts number) later = later
events_said s later = []

-- the events of lines, up to the first fault
abbrev pub replayed_events : ScriptPlace → List Piece → List Event
replayed_events place [] = []
replayed_events place (l ∷ ls) =
    events_said (line_says place l) (replayed_events (place_said place (line_says place l)) ls)

-- A WHOLE SCRIPT

-- the sides once the session was opened
abbrev pub ends_once_open : Ends
ends_once_open = ends_after at_start Open

abbrev pub first_stage : Version → ScriptStage
first_stage First = stages.Plain
first_stage (Second settings) = stages.Headed

-- where the reading stands before the first mark or step line
abbrev pub script_beginning : Version → ScriptPlace
script_beginning version = record { stage = first_stage version; ends = ends_once_open }

abbrev pub fault_by : Version → List Piece → Option Ending
fault_by version lines =
    first_fault (1 + header_lines version) (script_beginning version) (behind_header version lines)

abbrev pub events_by : Version → List Piece → List Event
events_by version lines = Open ∷ replayed_events (script_beginning version) (behind_header version lines)

-- the first fault of a script
abbrev pub script_fault : List Piece → Option Ending
script_fault lines = fault_by (version_in lines) lines

-- its events, up to that fault
abbrev pub script_events : List Piece → List Event
script_events lines = events_by (version_in lines) lines
