-- Where a check has come to.
use Rattle.std.specs.Prelude.{◌≡◌, ◌≢◌, ⊤, ℕ, suc, ◌+◌, ◌<◌, ◌^◌, List, [], ◌∷◌, ◌++◌, length}
use Rattle.std.specs.Prelude.{map, true, false, if◌then◌else◌, ◌==◌, Option, Some, None}
use Rattle.std.specs.List.{before_first, after_first}
use Rattle.std.specs.Str.{bytes_eq}
use Rattle.line_io.specs.Event.{Event, Open}
use Rattle.line_io.specs.Lines.{Piece, Whole, is_feed, parts_by_feed, line_feed}
use Rattle.line_io.specs.LineConsumers.{ConsumerMeaning}
use Rattle.script_lines.specs.Header.{header_of}
use Rattle.script_lines.specs.StepLine.{step_number_line, step_number}
use Rattle.policy_rules.specs.declared.setting_rules.settings.Settings.{Settings}
use Rattle.adapter_core.specs.declared.ends.Ends.{Ends}
use Rattle.adapter_core.specs.Ends.{are_both_ended}
use Rattle.adapter_core.specs.Trace.{Step, LawfulTrace, state}
use Rattle.adapter_core.specs.Parts.{CoreParts}
use Rattle.adapter_core.specs.Represents.{Represents}
use Rattle.trace_scripts.specs.Script.{written_text, script_events_in}
use Rattle.replay_command_base.specs.declared.ending.Ending.{Ending}
use Rattle.replay_command_base.specs.declared.ending.Ending.TheVariants as endings
use Rattle.replay_commands_on_core.specs.declared.check.Checker.{Checker}
use Rattle.script_replay.specs.declared.stage.ScriptStage.{ScriptStage}
use Rattle.script_replay.specs.declared.stage.ScriptStage.TheVariants as stages
use Rattle.replay_commands_on_core.specs.Check.{Finds, lines_by}
use Rattle.replay_commands_on_core.specs.Replayed.{IsProperIn}
use Rattle.script_replay.specs.Playing.{StepExtends}
use Rattle.replay_command_base.specs.Streams.{FilterStreams}
use Rattle.replay_command_base.specs.Reads.{AreRead}
use Rattle.script_replay.specs.Versions.{LineKind, MarksEvent, LineSaid, Comes, Passes}
use Rattle.script_replay.specs.Versions.{Starts, HasNoMark, IsOutOfStep, Cannot, Version}
use Rattle.script_replay.specs.Versions.{First, Second, kind_of_script_line, kind_says, settings_by}
use Rattle.script_replay.specs.Versions.{stage_started, stage_after_event, version_in}

-- the kind of a line: the event that may come if nothing is due, the number of the next step, the
-- line that is due, or another
pub data CheckedLineIs : Type 0 where
  TakesEvent : (event : Event) → CheckedLineIs
  TakesNumber : (number : ℕ) → CheckedLineIs
  TakesDue : CheckedLineIs
  Fails : (ending : Ending) → CheckedLineIs

-- both sides have ended, so that no step is to come
abbrev pub number_undue : Ends → ℕ → ℕ → CheckedLineIs
number_undue ends n number = if are_both_ended ends then Fails (endings.Differs n) else TakesNumber number

-- a line out of step: an event may not come once both sides have ended, and
-- any other such line differs
abbrev pub astray : Ends → ℕ → LineKind → Ending
astray ends n (MarksEvent e) = if are_both_ended ends then endings.MayNotCome n else endings.Differs n
astray ends n kind = endings.Differs n

abbrev pub said_undue : Ends → ℕ → LineKind → LineSaid → CheckedLineIs
said_undue ends n kind (Comes e) = TakesEvent e
said_undue ends n kind (Starts number) = number_undue ends n number
said_undue ends n kind HasNoMark = Fails (endings.NoMark n)
said_undue ends n kind Cannot = Fails (endings.MayNotCome n)
said_undue ends n kind Passes = Fails (endings.Differs n)
said_undue ends n kind IsOutOfStep = Fails (astray ends n kind)

-- a line if none is due
abbrev pub undue : ScriptStage → Ends → ℕ → List ℕ → CheckedLineIs
undue stage ends n line =
    said_undue ends n (kind_of_script_line (Whole line)) (kind_says stage ends (kind_of_script_line (Whole line)))

abbrev pub said_other : ℕ → LineSaid → Ending
said_other n HasNoMark = endings.NoMark n
said_other n (Comes e) = endings.Differs n
said_other n (Starts number) = endings.Differs n
said_other n Cannot = endings.Differs n
said_other n Passes = endings.Differs n
said_other n IsOutOfStep = endings.Differs n

-- a line that is not the one that is due
abbrev pub other_than : ScriptStage → Ends → ℕ → List ℕ → Ending
other_than stage ends n line = said_other n (kind_says stage ends (kind_of_script_line (Whole line)))

-- a line if the lines of this text are due
abbrev pub fit : ScriptStage → Ends → List ℕ → ℕ → List ℕ → CheckedLineIs
fit stage ends due n line =
    if length due == 0 then undue stage ends n line
    else (if bytes_eq line (before_first is_feed due) then TakesDue
    else Fails (other_than stage ends n line))

abbrev pub fault_in : CheckedLineIs → Option Ending
fault_in (TakesEvent e) = None
fault_in (TakesNumber number) = None
fault_in TakesDue = None
fault_in (Fails e) = Some e

-- a step of this event was taken, and its written lines are due
pub record FillsDueLines (old new : CoreParts) (e : Event) (due : List ℕ) : Type 0 where
  pub step : Step
  pub adds : StepExtends old new e step
  pub due_is : due ≡ written_text step

-- the work on a line
abbrev pub Followed : CoreParts → ScriptStage → List ℕ → CheckedLineIs → CoreParts → ScriptStage → List ℕ
    → Type 0
Followed old stage due (TakesEvent e) new stage' due' =
    FillsDueLines old new e due' × (stage' ≡ stage_after_event stage)
Followed old stage due (TakesNumber n) new stage' due' =
    (new ≡ old) × (stage' ≡ stage_started stage n) × (due' ≡ due)
Followed old stage due TakesDue new stage' due' =
    (new ≡ old) × (stage' ≡ stage) × (due' ≡ after_first is_feed due)
Followed old stage due (Fails e) new stage' due' = ⊤

-- The header was taken: the session has its settings, its first step was taken, and the number of
-- that and its written lines are due.
pub record Heads (settings : Settings) (new : CoreParts) (due : List ℕ) : Type 0 where
  pub set : CoreParts
  pub stands : Represents settings set []
  pub step : Step
  pub adds : StepExtends set new Open step
  pub due_is : due ≡ step_number_line 0 ++ line_feed ∷ written_text step

-- The session was opened without a header, and then the line was taken.
pub record OpensWith (old : CoreParts) (number : ℕ) (line : List ℕ) (answer : Option Ending)
    (new : CoreParts) (stage : ScriptStage) (due : List ℕ) : Type 0 where
  pub core : CoreParts
  pub lines : List ℕ
  pub opens : FillsDueLines old core Open lines
  pub ending : answer ≡ fault_in (fit stages.Plain core.ends lines number line)
  pub follows :
      Followed core stages.Plain lines (fit stages.Plain core.ends lines number line) new stage due

-- the work on the first line, which is this header or none
abbrev pub TakesFirst : Option Settings → CoreParts → ℕ → List ℕ → Option Ending → CoreParts
    → ScriptStage → List ℕ → Type 0
TakesFirst (Some settings) old number line answer new stage due =
    Heads settings new due × (stage ≡ stages.AfterEvent 0) × (answer ≡ None)
TakesFirst None old number line answer new stage due =
    OpensWith old number line answer new stage due

-- a line of a session that was opened
pub record TakesLater (old : CoreParts) (stage : ScriptStage) (due : List ℕ) (number : ℕ)
    (line : List ℕ) (answer : Option Ending) (new : CoreParts) (stage' : ScriptStage)
    (due' : List ℕ) : Type 0 where
  pub ending : answer ≡ fault_in (fit stage old.ends due number line)
  pub follows : Followed old stage due (fit stage old.ends due number line) new stage' due'

-- the work on a line
abbrev pub TakesAny : CoreParts → ScriptStage → List ℕ → ℕ → List ℕ → Option Ending → CoreParts
    → ScriptStage → List ℕ → Type 0
TakesAny old stages.Start due number line answer new stage' due' =
    TakesFirst (header_of line) old number line answer new stage' due'
TakesAny old stage due number line answer new stage' due' =
    TakesLater old stage due number line answer new stage' due'

-- the finding at the end of the input if these lines are due
abbrev pub at_end : List ℕ → ℕ → Ending
at_end due n = if length due == 0 then endings.Done else endings.Differs (n + 1)

-- The session was opened without a header, and then the end came.
pub record OpensAtEnd (old : CoreParts) (number : ℕ) (answer : Ending) : Type 0 where
  pub core : CoreParts
  pub lines : List ℕ
  pub opens : FillsDueLines old core Open lines
  pub ending : answer ≡ at_end lines number

-- the finding at the end of the input
abbrev pub CheckEndsAt : CoreParts → ScriptStage → List ℕ → ℕ → Ending → Type 0
CheckEndsAt core stages.Start due n answer = OpensAtEnd core n answer
CheckEndsAt core stages.Plain due n answer = answer ≡ at_end due n
CheckEndsAt core (stages.AfterEvent number) due n answer = answer ≡ at_end due n
CheckEndsAt core stages.Headed due n answer = answer ≡ endings.Differs (n + 1)
CheckEndsAt core (stages.Numbered number) due n answer = answer ≡ endings.Differs (n + 1)

-- a stage of a session that was opened: the number of a step has at most 18 digits
abbrev pub StageIsOpen : ScriptStage → Type 0
StageIsOpen stages.Start = ⊥
StageIsOpen stages.Plain = ⊤
StageIsOpen stages.Headed = ⊥
StageIsOpen (stages.AfterEvent number) = number < 10 ^ 18
StageIsOpen (stages.Numbered number) = number < 10 ^ 18

-- a line may be taken
abbrev pub CheckMayTake : CoreParts → ScriptStage → Type 0
CheckMayTake core stages.Start = Represents core.settings core []
CheckMayTake core stages.Plain = ⊤
CheckMayTake core stages.Headed = ⊥
CheckMayTake core (stages.AfterEvent number) = number < 10 ^ 18
CheckMayTake core (stages.Numbered number) = number < 10 ^ 18

-- a check before its first line
pub record IsUnread (o : Settings) (checker : Checker) : Type 0 where
  pub core : Represents o checker.core []
  pub stage : checker.stage ≡ stages.Start
  pub number : checker.number ≡ 0

-- the lines and those that are due are a script, and only written lines and
-- the first step line are due
pub record CheckShows (version : Version) (trace : List Step) (due : List ℕ)
    (lines : List Piece) : Type 0 where
  pub same : lines_by version trace ≡ lines ++ map Whole (parts_by_feed due)
  pub quiet : script_events_in (parts_by_feed due) ≡ []

-- the step of this number was the last
pub record WasLast (number : ℕ) (trace : List Step) : Type 0 where
  pub count : ℕ
  pub length_is : length trace ≡ suc count
  pub number_is : number ≡ step_number count

-- the lines are a script and the number of the next step, and a side has not ended
pub record IsNextStep (version : Version) (ends : Ends) (trace : List Step) (number : ℕ) (due : List ℕ)
    (lines : List Piece) : Type 0 where
  pub same : lines_by version trace ++ Whole (step_number_line number) ∷ [] ≡ lines
  pub number_is : number ≡ step_number (length trace)
  pub none_due : due ≡ []
  pub not_over : are_both_ended ends ≡ false

-- the lines are those of the trace at this stage
abbrev pub AreAt : Version → Ends → ScriptStage → List Step → List ℕ → List Piece → Type 0
AreAt First ends stages.Plain trace due lines = CheckShows First trace due lines
AreAt (Second settings) ends (stages.AfterEvent number) trace due lines =
    CheckShows (Second settings) trace due lines × WasLast number trace
AreAt (Second settings) ends (stages.Numbered number) trace due lines =
    IsNextStep (Second settings) ends trace number due lines
AreAt version ends stage trace due lines = ⊥

-- The lines were taken, and they and those that are due are a lawful script.
pub record Standing (o : Settings) (version : Version) (core : CoreParts) (stage : ScriptStage)
    (due : List ℕ) (lines : List Piece) : Type 0 where
  pub proper : IsProperIn version
  pub trace : List Step
  pub lawful : LawfulTrace (settings_by version o) trace
  pub opened : (state (settings_by version o) trace).ends.opened ≡ true
  pub stands : Represents (settings_by version o) core trace
  pub at : AreAt version core.ends stage trace due lines

-- no line was taken yet, or these
abbrev pub Placed : Settings → CoreParts → ScriptStage → List ℕ → List Piece → Type 0
Placed o core stage due [] = Represents o core [] × (stage ≡ stages.Start)
Placed o core stage due (line ∷ lines) =
    Standing o (version_in (line ∷ lines)) core stage due (line ∷ lines)

-- These lines were taken, and they and those that are due are a lawful script.
pub record Walked (o : Settings) (checker : Checker) (lines : List Piece) : Type 0 where
  pub number : checker.number ≡ length lines
  pub placed : Placed o checker.core checker.stage checker.due lines
  pub may : CheckMayTake checker.core checker.stage

-- The last of these lines shows this, wherever they are read.
pub record LinesShow (o : Settings) (ending : Ending) (lines : List Piece) : Type 0 where
  pub finds : (start now : FilterStreams) → AreRead start now lines → Finds o ending start now
  pub of_line : ending ≢ endings.ReadingFailed

-- the meaning of a check of lines
abbrev pub checks : {O : Type 0} → ConsumerMeaning Checker O Ending
checks {O} = record {
  took =
      λ checker0 output0 lines checker output. (o : Settings) → IsUnread o checker0
      → Walked o checker lines;
  stopped =
      λ checker0 output0 lines ending checker output. (o : Settings) → IsUnread o checker0
      → LinesShow o ending lines;
  may = λ checker. CheckMayTake checker.core checker.stage;
  is_written = λ checker. ⊤;
}
