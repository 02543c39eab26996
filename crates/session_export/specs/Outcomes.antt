-- The meaning of the status of a command that exports a session.
use Rattle.std.specs.Prelude.{◌≡◌, ◌⊎◌, ℕ, ◌^◌, ◌≤◌, ◌<◌, List, length, take, Option, Some, None}
use Rattle.std.specs.Io.KnownBytes.{Appends}
use Rattle.line_io.specs.Causes.{Rose}
use Rattle.line_io.specs.Lines.{Piece, items}
use Rattle.line_io.specs.Runs.{whole}
use Rattle.policy_rules.specs.declared.setting_rules.settings.Settings.{Settings}
use Rattle.adapter_core.specs.Trace.{Step, LawfulTrace}
use Rattle.trace_scripts.specs.Script.{events}
use Rattle.replay_command_base.specs.declared.ending.Ending.{Ending}
use Rattle.replay_command_base.specs.declared.ending.Ending.TheVariants as endings
use Rattle.replay_command_base.specs.Diagnostics.{command_diagnostic}
use Rattle.replay_command_base.specs.Ran.{WritingBroke}
use Rattle.replay_command_base.specs.Reads.{AreFirst, AreRead, Got, IsAll}
use Rattle.replay_command_base.specs.Streams.{FilterStreams, AreSame, HasNoFault}
use Rattle.replay_command_base.specs.Outcomes.{FailsToWrite}
use Rattle.replay_command_base.specs.Putting.{reason_of_line}
use Rattle.replay_command_base.specs.Filtered.{EndsFor}
use Rattle.script_replay.specs.Versions.{script_events, script_fault, settings_by, version_in}
use Rattle.session_export.specs.Exporting.{Exporting, exported_text, text_due, text_due_for, text_with_end}
use Rattle.line_io.specs.declared.limits.TheConstants.{SCRIPT_LINE}

-- The trace is the one lawful session of these lines: its settings are the header's, if there is
-- one, and its events those of the lines.
pub record IsSession (o : Settings) (lines : List Piece) (trace : List Step) : Type 0 where
  pub lawful : LawfulTrace (settings_by (version_in lines) o) trace
  pub events_are : events trace ≡ script_events lines
  pub only : (other : List Step) → LawfulTrace (settings_by (version_in lines) o) other
      → events other ≡ script_events lines → other ≡ trace

-- The output took the text of the session of these lines, by this choice of it.
pub record WritesText (text_of : Settings → List Piece → List Step → List ℕ) (o : Settings)
    (before after : FilterStreams) (lines : List Piece) : Type 0 where
  pub trace : List Step
  pub session : IsSession o lines trace
  pub written : Appends before.output.taken after.output.taken (text_of o lines trace)

-- All of the input was read, none of its lines is a fault, and what is exported of the session
-- and of its end was written.
pub record AllExported {T : Type 0} (means : Exporting T) (o : Settings) (before after : FilterStreams)
    : Type 0 where
  pub got : List ℕ
  pub reads : Got before after got
  pub all_read : IsAll before.input.left got
  pub faultless : script_fault (items SCRIPT_LINE got) ≡ None
  pub text : WritesText (text_with_end means endings.Done) o before after (items SCRIPT_LINE got)

-- The first fault of the input was reported, and what is exported of the session before it was written.
pub record ExportedToFault {T : Type 0} (means : Exporting T) (o : Settings) (before after : FilterStreams)
    : Type 0 where
  pub fault : Ending
  pub announced : Appends before.diag.taken after.diag.taken (command_diagnostic fault)
  pub lines : List Piece
  pub read : AreRead before after lines
  pub is_fault : script_fault lines ≡ Some fault
  pub text : WritesText (exported_text means) o before after lines

-- All whole lines that were read, of at least so many bytes, have no fault, and what is exported of
-- their session and of its end for this reason was written.
pub record WholeExported {T : Type 0} (means : Exporting T) (ending : Ending) (least : ℕ) (o : Settings)
    (before after : FilterStreams) : Type 0 where
  pub got : List ℕ
  pub reads : Got before after got
  pub least_is : least ≤ length got
  pub first : AreFirst before.input.left (whole SCRIPT_LINE got)
  pub faultless : script_fault (whole SCRIPT_LINE got) ≡ None
  pub text : WritesText (text_with_end means ending) o before after (whole SCRIPT_LINE got)

-- A write failed. The output took a prefix of what is due of the session of the first lines.
pub record PrefixExported {T : Type 0} (means : Exporting T) (o : Settings) (before after : FilterStreams)
    : Type 0 where
  pub lines : List Piece
  pub read : AreRead before after lines
  pub why : Option Ending
  pub reason : EndsFor why before after read.got lines
  pub fault : script_fault lines ≡ reason_of_line why
  pub trace : List Step
  pub session : IsSession o lines trace
  pub due : FailsToWrite (λ ending. text_due means ending o lines trace) why before after
  pub prefix : ℕ
  pub written : Appends before.output.taken after.output.taken
      (take prefix (text_due_for means why o lines trace))

-- The text of an input without a fault of fewer than 2^32 bytes is written, or there was no memory.
abbrev pub CompletesText : FilterStreams → FilterStreams → ℕ → Type 0
CompletesText before after code =
    (x : List ℕ) → before.input.left ≡ Some x → length x < 2 ^ 32
    → script_fault (items SCRIPT_LINE x) ≡ None → HasNoFault before after → (code ≡ 0) ⊎ (code ≡ 3)

-- The first fault of an input of fewer than 2^32 bytes is reported, or there was no memory.
abbrev pub ExportReportsFault : FilterStreams → FilterStreams → ℕ → Type 0
ExportReportsFault before after code =
    (x : List ℕ) (fault : Ending) → before.input.left ≡ Some x → length x < 2 ^ 32
    → script_fault (items SCRIPT_LINE x) ≡ Some fault → HasNoFault before after
    → ((code ≡ 2) × Appends before.diag.taken after.diag.taken (command_diagnostic fault)) ⊎ (code ≡ 3)

-- the meaning of each status of a session that was reported
pub record SessionOutcome {T : Type 0} (means : Exporting T) (o : Settings) (Untouched : Type 0)
    (before after : FilterStreams) (code : ℕ) : Type 0 where
  pub all_announced : code ≡ 0 → AllExported means o before after × AreSame before after
  pub no_other : code ≡ 1 → ⊥
  pub fault_announced : code ≡ 2 → ExportedToFault means o before after
  pub memory : code ≡ 3 → Untouched
  pub reading_failed : code ≡ 4 → Rose before.input.faults after.input.faults
      × WholeExported means endings.ReadingFailed 0 o before after
  pub writing_failed : code ≡ 5 → WritingBroke before after
      × (Untouched ⊎ PrefixExported means o before after)
  pub too_long : code ≡ 6 → WholeExported means endings.TooLong (2 ^ 32) o before after
  -- which status comes
  pub complete : CompletesText before after code
  pub faults_announced : ExportReportsFault before after code
