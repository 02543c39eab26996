-- Where a replay has come to.
use Rattle.std.specs.Prelude.{◌≡◌, ⊤, ℕ, suc, List, [], ◌∷◌, ◌++◌, length, Option, Some, None}
use Rattle.std.specs.Io.KnownBytes.{Appends}
use Rattle.line_io.specs.Event.{Event, Open}
use Rattle.line_io.specs.Lines.{Piece, line_feed}
use Rattle.line_io.specs.Out.{Text, with}
use Rattle.line_io.specs.Source.{Received}
use Rattle.script_lines.specs.Header.{header_text}
use Rattle.script_lines.specs.StepLine.{step_number}
use Rattle.script_lines.specs.StepText.{numbered_marks}
use Rattle.policy_rules.specs.declared.setting_rules.settings.Settings.{Settings}
use Rattle.adapter_core.specs.Trace.{Step, LawfulTrace, iface_text, engine_text}
use Rattle.adapter_core.specs.Parts.{CoreParts}
use Rattle.adapter_core.specs.Represents.{Represents}
use Rattle.trace_scripts.specs.Script.{StepLinesAreShort, IsShortStep, events, step_text}
use Rattle.replay_command_base.specs.declared.ending.Ending.{Ending}
use Rattle.script_replay.specs.declared.stage.ScriptStage.{ScriptStage}
use Rattle.script_replay.specs.declared.stage.ScriptStage.TheVariants as stages
use Rattle.script_replay.specs.Stages.{IsNumbered, number_of_stage}
use Rattle.script_replay.specs.Versions.{Version, First, Second, LineSaid, Comes, Starts}
use Rattle.script_replay.specs.Versions.{script_beginning, behind_header, place_over, stage_started}
use Rattle.script_replay.specs.Versions.{stage_after_event, script_by, script_events, script_fault}
use Rattle.script_replay.specs.Versions.{settings_by, version_in}
use Rattle.replay_command_base.specs.declared.limits.TheConstants.{TEXT_ROOM}

-- a step of this event extends each lawful trace for which the core stood
pub record StepExtends (old new : CoreParts) (e : Event) (step : Step) : Type 0 where
  pub event : step.event ≡ e
  pub extends : (o : Settings) (t : List Step) → LawfulTrace o t → Represents o old t
      → LawfulTrace o (step ∷ t) × Represents o new (step ∷ t)

-- the text of a step, after its number if it has one
abbrev pub text_by : Option ℕ → Step → List ℕ
text_by (Some number) step = numbered_marks number step.event (iface_text step) (engine_text step)
text_by None step = step_text step

abbrev pub step_text_at : ScriptStage → Step → List ℕ
step_text_at stage step = text_by (number_of_stage stage) step

-- a step of this event was taken, and its marks were put
pub record StepIsPut (stage : ScriptStage) (old new : CoreParts) (e : Event)
    (text_old text_new : Text) : Type 0 where
  pub step : Step
  pub adds : StepExtends old new e step
  pub put : text_new ≡ with text_old (step_text_at stage step)
  pub short : IsShortStep step

-- the order of a line was carried out
abbrev pub LineIsPlayed : CoreParts → ScriptStage → Text → LineSaid → CoreParts → ScriptStage → Text
    → Type 0
LineIsPlayed core stage text (Comes e) core' stage' text' =
    StepIsPut stage core core' e text text' × (stage' ≡ stage_after_event stage)
LineIsPlayed core stage text (Starts number) core' stage' text' =
    (core' ≡ core) × (stage' ≡ stage_started stage number) × (text' ≡ text)
LineIsPlayed core stage text said core' stage' text' = (core' ≡ core) × (stage' ≡ stage) × (text' ≡ text)

-- so many steps were taken if the reading is at this stage
abbrev pub CountIs : Version → ScriptStage → ℕ → Type 0
CountIs First stages.Plain count = ⊤
CountIs (Second settings) stages.Headed count = count ≡ 1
CountIs (Second settings) (stages.AfterEvent number) count =
    (k : ℕ) × (count ≡ suc k) × (number ≡ step_number k)
CountIs (Second settings) (stages.Numbered number) count = number ≡ step_number count
CountIs version stage count = ⊥

-- The session was opened, and these lines were replayed.
pub record Playing (o : Settings) (lines : List Piece) (core : CoreParts) (stage : ScriptStage)
    (text : List ℕ) (before after : Received) : Type 0 where
  pub fine : script_fault lines ≡ None
  pub place : place_over (script_beginning (version_in lines)) (behind_header (version_in lines) lines)
      ≡ record { stage = stage; ends = core.ends }
  pub trace : List Step
  pub count : CountIs (version_in lines) stage (length trace)
  pub lawful : LawfulTrace (settings_by (version_in lines) o) trace
  pub stands : Represents (settings_by (version_in lines) o) core trace
  pub short : StepLinesAreShort trace
  pub events_are : events trace ≡ script_events lines
  pub written : List ℕ
  pub appended : Appends before.taken after.taken written
  pub script_is : written ++ text ≡ script_by (version_in lines) trace

-- no line came yet
pub record Unbegun (o : Settings) (core : CoreParts) (stage : ScriptStage) (text : List ℕ)
    (before after : Received) : Type 0 where
  pub is_start : stage ≡ stages.Start
  pub stands : Represents o core []
  pub is_empty : text ≡ []
  pub appended : Appends before.taken after.taken []

abbrev pub ReplayTook : Settings → List Piece → CoreParts → ScriptStage → List ℕ → Received → Received
    → Type 0
ReplayTook o [] core stage text before after = Unbegun o core stage text before after
ReplayTook o (line ∷ lines) core stage text before after =
    Playing o (line ∷ lines) core stage text before after

-- The session was opened by a first line that is this header, or none.
abbrev pub HasBegun : Option Settings → CoreParts → Text → CoreParts → ScriptStage → Text → Type 0
HasBegun None core text core' stage' text' =
    StepIsPut stages.Plain core core' Open text text' × (stage' ≡ stages.Plain)
HasBegun (Some settings) core text core' stage' text' =
    (set : CoreParts) × Represents settings set []
    × StepIsPut (stages.Numbered 0) set core' Open
    (with (with text (header_text settings)) (line_feed ∷ [])) text'
    × (stage' ≡ stages.Headed)

-- The output got the script of a lawful trace, except what is not written yet. Its
-- events are those of the lines.
pub record OutputIsScript (o : Settings) (lines : List Piece) (unwritten : List ℕ)
    (before after : Received) : Type 0 where
  pub trace : List Step
  pub lawful : LawfulTrace (settings_by (version_in lines) o) trace
  pub short : StepLinesAreShort trace
  pub events_are : events trace ≡ script_events lines
  pub written : List ℕ
  pub appended : Appends before.taken after.taken written
  pub script_is : written ++ unwritten ≡ script_by (version_in lines) trace

-- the outcome of a line
abbrev pub LinePlayed : Settings → List Piece → Option Ending → CoreParts → ScriptStage → List ℕ
    → Received → Received → Type 0
LinePlayed o lines None core stage text before after = Playing o lines core stage text before after
LinePlayed o lines (Some fault) core stage text before after =
    (script_fault lines ≡ Some fault) × OutputIsScript o lines text before after

-- A line may be taken.
pub record ReplayMayTake (core : CoreParts) (stage : ScriptStage) (text : Text) : Type 0 where
  pub new : stage ≡ stages.Start → Represents core.settings core [] × (text.text ≡ [])
  pub numbered : IsNumbered stage
  pub room : text.room ≡ TEXT_ROOM
