-- Lines and stages as the program has them.
use Rattle.std.specs.Prelude.{ℕ, ◌<◌, ◌^◌, Bool, true, false, Option, Some, None}
use Rattle.line_io.specs.Event.{event_of}
use Rattle.script_replay.specs.declared.stage.LineKind as code_kind
use Rattle.script_replay.specs.declared.stage.LineKind.TheVariants as kinds
use Rattle.script_replay.specs.declared.stage.LineSaid as code_said
use Rattle.script_replay.specs.declared.stage.LineSaid.TheVariants as saids
use Rattle.script_replay.specs.declared.stage.ScriptStage.{ScriptStage}
use Rattle.script_replay.specs.declared.stage.ScriptStage.TheVariants as stages
use Rattle.script_replay.specs.Versions.{LineKind, LineSaid}
use Rattle.script_replay.specs.Versions as reading

abbrev pub kind : code_kind.LineKind → LineKind
kind (kinds.MarksEvent event) = reading.MarksEvent (event_of event)
kind kinds.Writes = reading.Writes
kind (kinds.Numbers number) = reading.Numbers number
kind kinds.HasNone = reading.HasNone

abbrev pub line_said_of : code_said.LineSaid → LineSaid
line_said_of (saids.Comes event) = reading.Comes (event_of event)
line_said_of saids.Passes = reading.Passes
line_said_of (saids.Starts number) = reading.Starts number
line_said_of saids.HasNoMark = reading.HasNoMark
line_said_of saids.IsOutOfStep = reading.IsOutOfStep
line_said_of saids.Cannot = reading.Cannot

-- the number of a step has at most 18 digits
abbrev pub IsNumbered : ScriptStage → Type 0
IsNumbered (stages.AfterEvent number) = number < 10 ^ 18
IsNumbered (stages.Numbered number) = number < 10 ^ 18
IsNumbered stage = Unit {0}

abbrev pub is_first_stage : ScriptStage → Bool
is_first_stage stages.Start = true
is_first_stage stage = false

-- the number of the step whose event comes
abbrev pub number_of_stage : ScriptStage → Option ℕ
number_of_stage (stages.Numbered number) = Some number
number_of_stage stage = None
