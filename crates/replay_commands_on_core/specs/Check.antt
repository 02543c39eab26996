-- The findings of `check`.
use Rattle.std.specs.Prelude.{◌≡◌, ◌≢◌, ℕ, ◌+◌, ◌^◌, ◌≤◌, List, [], ◌∷◌, ◌++◌}
use Rattle.std.specs.Prelude.{length, map, Bool, true, false, ◌⊎◌, Option, None}
use Rattle.std.specs.Io.KnownBytes.{Appends}
use Rattle.line_io.specs.Causes.{Rose}
use Rattle.line_io.specs.Event.{Event}
use Rattle.line_io.specs.Lines.{Piece, Whole, TooLong, items, parts_by_feed}
use Rattle.script_lines.specs.Marks.{Mark, mark_spelled}
use Rattle.script_lines.specs.StepLine.{step_number_line, step_number}
use Rattle.line_io.specs.Runs.{SourceCalls, whole}
use Rattle.line_io.specs.Source.{TakesPrefix}
use Rattle.policy_rules.specs.declared.setting_rules.settings.Settings.{Settings}
use Rattle.adapter_core.specs.Ends.{are_both_ended, may}
use Rattle.adapter_core.specs.Trace.{Step, LawfulTrace, state}
use Rattle.replay_command_base.specs.declared.ending.Ending.{Ending}
use Rattle.replay_command_base.specs.declared.ending.Ending.TheVariants as endings
use Rattle.replay_commands_on_core.specs.Verdict.{check_verdict}
use Rattle.replay_command_base.specs.Streams.{FilterStreams}
use Rattle.script_replay.specs.Versions.{LineKind, MarksEvent, Writes, HasNone, kind_of_script_line, Version}
use Rattle.script_replay.specs.Versions.{First, Second, version_in, settings_by, script_by}
use Rattle.replay_command_base.specs.Reads.{Got, IsAll, AreRead, AreFirst}
use Rattle.line_io.specs.declared.limits.TheConstants.{SCRIPT_LINE}

-- the lines of a script: none of them is too long
abbrev pub lines_by : Version → List Step → List Piece
lines_by version trace = map Whole (parts_by_feed (script_by version trace))

-- The lines are those of the script of a lawful trace that has its Open step.
pub record ScriptBy (o : Settings) (version : Version) (lines : List Piece) : Type 0 where
  pub trace : List Step
  pub lawful : LawfulTrace (settings_by version o) trace
  pub opened : (state (settings_by version o) trace).ends.opened ≡ true
  pub same : lines_by version trace ≡ lines

-- The lines are the first of the script of a lawful trace.
pub record BeginBy (o : Settings) (version : Version) (lines : List Piece) : Type 0 where
  pub trace : List Step
  pub lawful : LawfulTrace (settings_by version o) trace
  pub later : List Piece
  pub goes_on : lines_by version trace ≡ lines ++ later

-- the lines after which the event of the next step stands: in version 2 those with its number, but
-- no number comes once both sides have ended
abbrev pub lines_before : Version → Bool → List Step → List Piece
lines_before First over trace = lines_by First trace
lines_before (Second settings) true trace = lines_by (Second settings) trace
lines_before (Second settings) false trace =
    lines_by (Second settings) trace ++ Whole (step_number_line (step_number (length trace))) ∷ []

-- After the lines of the script of a lawful trace the event of the next
-- step stands, or would stand.
pub record AwaitBy (o : Settings) (version : Version) (lines : List Piece) : Type 0 where
  pub trace : List Step
  pub lawful : LawfulTrace (settings_by version o) trace
  pub opened : (state (settings_by version o) trace).ends.opened ≡ true
  pub same : lines_before version (are_both_ended (state (settings_by version o) trace).ends) trace ≡ lines

-- the same for the version that the first line states
abbrev pub AreScript : Settings → List Piece → Type 0
AreScript o lines = ScriptBy o (version_in lines) lines

abbrev pub BeginScript : Settings → List Piece → Type 0
BeginScript o lines = BeginBy o (version_in lines) lines

abbrev pub AwaitEvent : Settings → List Piece → Type 0
AwaitEvent o lines = AwaitBy o (version_in lines) lines

-- the mark of a line
abbrev pub mark_to_check : Piece → Option Mark
mark_to_check (Whole line) = mark_spelled line
mark_to_check TooLong = None

-- a step line counts only after a header
abbrev pub kind_under : Version → LineKind → LineKind
kind_under First (MarksEvent e) = MarksEvent e
kind_under First Writes = Writes
kind_under First kind = HasNone
kind_under (Second settings) kind = kind

abbrev pub line_kind_in : Version → Piece → LineKind
line_kind_in version line = kind_under version (kind_of_script_line line)

-- The line with this number was read, and is the first up to which the lines do not begin the
-- script of a lawful trace.
pub record Parts (o : Settings) (number : ℕ) (start now : FilterStreams) : Type 0 where
  pub before : List Piece
  pub line : Piece
  pub read : AreRead start now (before ++ line ∷ [])
  pub number_is : number ≡ length before + 1
  pub begins : BeginScript o before
  pub differs : BeginScript o (before ++ line ∷ []) → ⊥

-- it has no mark, and after a header it is also no step line
pub record PartsUnmarked (o : Settings) (number : ℕ) (start now : FilterStreams) : Type 0 where
  pub parts : Parts o number start now
  pub unmarked : line_kind_in (version_in parts.before) parts.line ≡ HasNone

-- an event is due, or both sides have ended, and this event may not come
pub record PartsByEvent (o : Settings) (number : ℕ) (start now : FilterStreams) : Type 0 where
  pub parts : Parts o number start now
  pub event : Event
  pub is_event : kind_of_script_line parts.line ≡ MarksEvent event
  pub awaited : AwaitEvent o parts.before
  pub may_not :
      may (state (settings_by (version_in parts.before) o) awaited.trace).ends event ≡ false

-- it is another line than the written line or step line that is due, or such a line if none is due
pub record PartsByLine (o : Settings) (number : ℕ) (start now : FilterStreams) : Type 0 where
  pub parts : Parts o number start now
  pub is_marked : line_kind_in (version_in parts.before) parts.line ≢ HasNone
  pub other : (event : Event) → kind_of_script_line parts.line ≡ MarksEvent event → AwaitEvent o parts.before → ⊥

-- all lines were read and begin a script, and lines are missing at the end
pub record Lacks (o : Settings) (number : ℕ) (start now : FilterStreams) : Type 0 where
  pub got : List ℕ
  pub reads : Got start now got
  pub all : IsAll start.input.left got
  pub number_is : number ≡ length (items SCRIPT_LINE got) + 1
  pub begins : BeginScript o (items SCRIPT_LINE got)
  pub lacks : AreScript o (items SCRIPT_LINE got) → ⊥

-- the line with this number differs
pub data Differs (o : Settings) (number : ℕ) (start now : FilterStreams) : Type 0 where
  ByLine : PartsByLine o number start now → Differs o number start now
  AtEnd : Lacks o number start now → Differs o number start now

-- all of the input was read, and it is the script of a lawful trace
pub record IsLawfulScript (o : Settings) (start now : FilterStreams) : Type 0 where
  pub got : List ℕ
  pub reads : Got start now got
  pub all : IsAll start.input.left got
  pub script : AreScript o (items SCRIPT_LINE got)

-- the whole lines that were got begin the script of a lawful trace
pub record BeginsWhole (o : Settings) (start now : FilterStreams) : Type 0 where
  pub got : List ℕ
  pub reads : Got start now got
  pub of_left : AreFirst start.input.left (whole SCRIPT_LINE got)
  pub begins : BeginScript o (whole SCRIPT_LINE got)

-- the input is too long: at least 2^32 bytes were got
pub record BeginsMuch (o : Settings) (start now : FilterStreams) : Type 0 where
  pub begins : BeginsWhole o start now
  pub least : 2 ^ 32 ≤ length begins.got

-- the finding in the input
abbrev pub Finds : Settings → Ending → FilterStreams → FilterStreams → Type 0
Finds o endings.Done start now = IsLawfulScript o start now
Finds o (endings.Differs n) start now = Differs o n start now
Finds o (endings.NoMark n) start now = PartsUnmarked o n start now
Finds o (endings.MayNotCome n) start now = PartsByEvent o n start now
Finds o endings.ReadingFailed start now = BeginsWhole o start now
Finds o endings.TooLong start now = BeginsMuch o start now
Finds o ending start now = ⊥

-- the text of this could not be written, or its diagnostic could not
abbrev pub IsUnreported : Ending → FilterStreams → FilterStreams → Type 0
IsUnreported found start now =
    ((check_verdict found ≢ []) × Rose start.output.faults now.output.faults)
    ⊎ Rose start.diag.faults now.diag.faults

-- the finding could not be written, or not be reported
pub record WritesPart (o : Settings) (start now : FilterStreams) : Type 0 where
  pub found : Ending
  pub finds : Finds o found start now
  -- the input failed if and only if that is what was found
  pub reading : found ≡ endings.ReadingFailed → Rose start.input.faults now.input.faults
  pub read : found ≢ endings.ReadingFailed → now.input.faults ≡ start.input.faults
  pub part : TakesPrefix start.output.taken now.output.taken (check_verdict found)
  pub unreported : IsUnreported found start now

-- how a check ended: if nothing is to be written, the output is untouched
abbrev pub ChecksAs : Settings → Type 0 → Type 0 → Ending → FilterStreams → FilterStreams → Type 0
ChecksAs o unread kept endings.NoMemory start now = unread × kept
ChecksAs o unread kept endings.WritingFailed start now = WritesPart o start now
ChecksAs o unread kept e start now =
    Finds o e start now × Appends start.output.taken now.output.taken (check_verdict e)
    × (check_verdict e ≡ [] → kept)
