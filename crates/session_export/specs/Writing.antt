-- The work of a writer of sessions on the lines of a script.
use Rattle.std.specs.Prelude.{◌≡◌, ℕ, List, [], ◌∷◌, false, Option, Some, None}
use Rattle.line_io.specs.Event.{Event, Open}
use Rattle.line_io.specs.Lines.{Piece}
use Rattle.line_io.specs.Out.{Text, with}
use Rattle.line_io.specs.Source.{Received}
use Rattle.policy_rules.specs.declared.setting_rules.settings.Settings.{Settings}
use Rattle.game_record.specs.Game.{Game}
use Rattle.adapter_core.specs.Trace.{Step, LawfulTrace}
use Rattle.adapter_core.specs.Parts.{CoreParts, opening_core_parts}
use Rattle.adapter_core.specs.Represents.{Represents}
use Rattle.trace_scripts.specs.Script.{IsShortStep, events}
use Rattle.replay_command_base.specs.declared.ending.Ending.{Ending}
use Rattle.replay_command_base.specs.declared.ending.Ending.TheVariants as endings
use Rattle.script_replay.specs.declared.stage.ScriptStage.{ScriptStage}
use Rattle.script_replay.specs.declared.stage.ScriptStage.TheVariants as stages
use Rattle.script_replay.specs.Stages.{IsNumbered, is_first_stage}
use Rattle.script_replay.specs.Versions.{LineSaid, Comes, Starts, script_events, script_fault}
use Rattle.script_replay.specs.Versions.{settings_by, stage_started, stage_after_event, version_in}
use Rattle.script_replay.specs.Playing.{StepExtends, ReplayTook}
use Rattle.replay_command_base.specs.Putting.{Putting}
use Rattle.session_export.specs.declared.writer.SessionWriter.{SessionWriter}
use Rattle.session_export.specs.Following.{IsReached}
use Rattle.session_export.specs.Exporting.{Exporting, text_with_end, exported_text}

-- a text was put, of which this holds
pub record HasPut (Holds : List ℕ → Type 0) (old new : Text) : Type 0 where
  pub more : List ℕ
  pub put : new ≡ with old more
  pub holds : Holds more

-- A step of this event was taken, and this text was made of it, of the game told before
-- and of the game after it.
pub record TakesStep (text_of : Event → Option Game → Game → List ℕ) (before : Option Game)
    (old new : CoreParts) (e : Event) (more : List ℕ) : Type 0 where
  pub step : Step
  pub adds : StepExtends old new e step
  pub short : IsShortStep step
  pub announced : more ≡ text_of e before new.desk.game

-- the order of the line with this number was carried out, and this was put for it
abbrev pub ExportsLine : {T : Type 0} → Exporting T → ℕ → CoreParts → ScriptStage → LineSaid → CoreParts
    → ScriptStage → List ℕ → Type 0
ExportsLine means number core stage (Comes e) core' stage' more =
    TakesStep (means.step_text number) (Some core.desk.game) core core' e more
    × (stage' ≡ stage_after_event stage)
ExportsLine means number core stage (Starts step) core' stage' more =
    (core' ≡ core) × (stage' ≡ stage_started stage step) × (more ≡ [])
ExportsLine means number core stage said core' stage' more =
    (core' ≡ core) × (stage' ≡ stage) × (more ≡ [])

-- The session was opened by a first line that is this header, or none.
abbrev pub HasOpened : {T : Type 0} → Exporting T → Option Settings → CoreParts → CoreParts
    → ScriptStage → List ℕ → Type 0
HasOpened means None core core' stage' more =
    TakesStep (means.step_text 0) None core core' Open more × (stage' ≡ stages.Plain)
HasOpened means (Some settings) core core' stage' more =
    (set : CoreParts) × Represents settings set []
    × TakesStep (means.step_text 0) None set core' Open more × (stage' ≡ stages.Headed)

-- the writer that is made with these settings
abbrev pub new_session_writer : {T : Type 0} → Exporting T → Settings → SessionWriter T
new_session_writer means settings = record {
  core = opening_core_parts settings;
  stage = stages.Start;
  exporter = means.first;
}

-- a writer before its first line
pub record WriterIsUnused {T : Type 0} (means : Exporting T) (o : Settings) (writer : SessionWriter T)
    : Type 0 where
  pub is_start : writer.stage ≡ stages.Start
  pub stands : Represents o writer.core []
  pub at : means.at writer.exporter None

-- it may take a line
pub record MayWrite {T : Type 0} (means : Exporting T) (writer : SessionWriter T) : Type 0 where
  pub new : writer.stage ≡ stages.Start
      → Represents writer.core.settings writer.core [] × means.at writer.exporter None
  pub at : is_first_stage writer.stage ≡ false → means.at writer.exporter (Some writer.core.desk.game)
  pub numbered : IsNumbered writer.stage
  pub reached : IsReached writer.core

-- The text is that of the session that has these lines, by this choice of it.
abbrev pub IsTextOf : (Settings → List Piece → List Step → List ℕ) → Settings → List Piece → List ℕ
    → Type 0
IsTextOf text_of o lines text =
    (trace : List Step) → LawfulTrace (settings_by (version_in lines) o) trace
    → events trace ≡ script_events lines → text ≡ text_of o lines trace

-- a sink that reports nothing: the script of the session is not written
abbrev pub silent_sink : Received
silent_sink = record { taken = None; faults = 0 }

-- before the first line there is no session
abbrev pub IsExported : {T : Type 0} → Exporting T → Settings → List Piece → List ℕ → Type 0
IsExported means o [] text = text ≡ []
IsExported means o (line ∷ lines) text = IsTextOf (exported_text means) o (line ∷ lines) text

-- These lines were read as a replay reads them, and the text is what is exported of their session.
pub record Written {T : Type 0} (means : Exporting T) (o : Settings) (lines : List Piece)
    (writer : SessionWriter T) (text : List ℕ) : Type 0 where
  pub script : List ℕ
  pub took : ReplayTook o lines writer.core writer.stage script silent_sink silent_sink
  pub announced : IsExported means o lines text

-- There is one session of these lines, and the text is that of it, by this choice.
pub record HasSession (text_of : Settings → List Piece → List Step → List ℕ) (o : Settings)
    (lines : List Piece) (text : List ℕ) : Type 0 where
  pub trace : List Step
  pub lawful : LawfulTrace (settings_by (version_in lines) o) trace
  pub events_are : events trace ≡ script_events lines
  pub text_is : text ≡ text_of o lines trace

-- these lines have this first fault, and the text is what is exported of the session before it
abbrev pub ExportFaulted : {T : Type 0} → Exporting T → Ending → Settings → List Piece → List ℕ → Type 0
ExportFaulted means fault o lines text =
    (script_fault lines ≡ Some fault) × HasSession (exported_text means) o lines text

-- these lines have no fault, and the text is what is exported of their session and of its end
abbrev pub ExportFinished : {T : Type 0} → Exporting T → Ending → Settings → List Piece → List ℕ → Type 0
ExportFinished means ending o lines text =
    (script_fault lines ≡ None) × HasSession (text_with_end means ending) o lines text

-- after these lines there are no more, for this reason
abbrev pub ExportEndsWith : {T : Type 0} → Exporting T → Settings → List Piece → Ending → List ℕ → Type 0
ExportEndsWith means o lines endings.Done text = ExportFinished means endings.Done o lines text
ExportEndsWith means o lines endings.ReadingFailed text = ExportFinished means endings.ReadingFailed o lines text
ExportEndsWith means o lines endings.TooLong text = ExportFinished means endings.TooLong o lines text
ExportEndsWith means o lines (endings.NoMark n) text = ExportFaulted means (endings.NoMark n) o lines text
ExportEndsWith means o lines (endings.OutOfStep n) text = ExportFaulted means (endings.OutOfStep n) o lines text
ExportEndsWith means o lines (endings.MayNotCome n) text = ExportFaulted means (endings.MayNotCome n) o lines text
ExportEndsWith means o lines ending text = ⊥

-- the outcome of a line
abbrev pub CameTo : {T : Type 0} → Exporting T → Settings → List Piece → Option Ending
    → SessionWriter T → List ℕ → Type 0
CameTo means o lines None writer text = Written means o lines writer text
CameTo means o lines (Some fault) writer text = ExportFaulted means fault o lines text

-- the meaning of a writer of sessions to the run that gives it lines
abbrev pub export_meaning : {T : Type 0} → Exporting T → Putting (SessionWriter T)
export_meaning means = record {
  put = λ writer0 lines writer text.
      (o : Settings) → WriterIsUnused means o writer0 → Written means o lines writer text;
  says = λ writer0 lines ending text.
      (o : Settings) → WriterIsUnused means o writer0 → ExportEndsWith means o lines ending text;
  may = λ writer. MayWrite means writer;
}
