-- The promise of the command `positions`.
use Rattle.std.specs.Prelude.{◌≡◌, ◌⊎◌, ℕ, ◌^◌, ◌≤◌, ◌<◌, List, length, take, Option, Some, None}
use Rattle.std.specs.Io.KnownBytes.{Appends}
use Rattle.line_io.specs.Causes.{Rose}
use Rattle.line_io.specs.Lines.{Piece, items}
use Rattle.line_io.specs.Runs.{whole}
use Rattle.policy_rules.specs.declared.setting_rules.settings.Settings.{Settings}
use Rattle.adapter_core.specs.Trace.{Step}
use Rattle.replay_command_base.specs.declared.ending.Ending.{Ending}
use Rattle.replay_command_base.specs.Diagnostics.{command_diagnostic}
use Rattle.replay_command_base.specs.Ran.{FilterRan, WritingBroke}
use Rattle.replay_command_base.specs.Reads.{AreFirst, AreRead, Got, IsAll}
use Rattle.replay_command_base.specs.Streams.{FilterStreams, AreSame, HasNoFault}
use Rattle.replay_command_base.specs.Filtered.{EndsFor, FilterEndsBy}
use Rattle.replay_command_base.specs.Outcomes.{FailsToWrite}
use Rattle.replay_command_base.specs.Putting.{reason_of_line}
use Rattle.script_replay.specs.Versions.{script_fault}
use Rattle.session_export.specs.Outcomes.{IsSession, ExportReportsFault}
use Rattle.session_export.specs.PositionExports.{new_position_writer, text_of_lines, writes_positions}
use Rattle.line_io.specs.declared.limits.TheConstants.{SCRIPT_LINE}

-- The output took the positions of the session of these lines.
pub record WritesPositions (o : Settings) (before after : FilterStreams)
    (lines : List Piece) : Type 0 where
  pub trace : List Step
  pub session : IsSession o lines trace
  pub written : Appends before.output.taken after.output.taken (text_of_lines o lines trace)

-- All of the input was read, none of its lines is a fault, all positions were
-- written, and no stream failed.
pub record AllPositionsWritten (o : Settings) (before after : FilterStreams) : Type 0 where
  pub got : List ℕ
  pub reads : Got before after got
  pub all_read : IsAll before.input.left got
  pub faultless : script_fault (items SCRIPT_LINE got) ≡ None
  pub positions : WritesPositions o before after (items SCRIPT_LINE got)
  pub no_failure : AreSame before after

-- The first fault of the input was reported, and the positions before it were written.
pub record PositionsFaultReported (o : Settings) (before after : FilterStreams) : Type 0 where
  pub fault : Ending
  pub announced : Appends before.diag.taken after.diag.taken (command_diagnostic fault)
  pub lines : List Piece
  pub read : AreRead before after lines
  pub is_fault : script_fault lines ≡ Some fault
  pub positions : WritesPositions o before after lines

-- All whole lines that were read have no fault, and their positions were written.
pub record WholePositionsWritten (o : Settings) (before after : FilterStreams) : Type 0 where
  pub got : List ℕ
  pub reads : Got before after got
  pub first : AreFirst before.input.left (whole SCRIPT_LINE got)
  pub faultless : script_fault (whole SCRIPT_LINE got) ≡ None
  pub positions : WritesPositions o before after (whole SCRIPT_LINE got)

-- so it is if the input gave at least 2^32 bytes
pub record PositionsOfLongInput (o : Settings) (before after : FilterStreams) : Type 0 where
  pub positions : WholePositionsWritten o before after
  pub least : 2 ^ 32 ≤ length positions.got

-- A write failed. The output took a prefix of the positions of the session of the first lines.
pub record PositionsPrefixWritten (o : Settings) (before after : FilterStreams) : Type 0 where
  pub lines : List Piece
  pub read : AreRead before after lines
  pub why : Option Ending
  pub reason : EndsFor why before after read.got lines
  -- the last line is a fault if and only if that is why
  pub fault : script_fault lines ≡ reason_of_line why
  pub trace : List Step
  pub session : IsSession o lines trace
  pub due : FailsToWrite (λ ending. text_of_lines o lines trace) why before after
  pub prefix : ℕ
  pub written : Appends before.output.taken after.output.taken
      (take prefix (text_of_lines o lines trace))

-- The positions of an input without a fault of fewer than 2^32 bytes are written, or there was no
-- memory.
abbrev pub CompletesPositions : FilterStreams → FilterStreams → ℕ → Type 0
CompletesPositions before after code =
    (x : List ℕ) → before.input.left ≡ Some x → length x < 2 ^ 32
    → script_fault (items SCRIPT_LINE x) ≡ None → HasNoFault before after → (code ≡ 0) ⊎ (code ≡ 3)

-- `Unread` and `Kept` say that the input and the output are just as they were.
pub record PositionsWritten (o : Settings) (Unread Kept : Type 0) (before after : FilterStreams)
    (code : ℕ) : Type 0 where
  -- The status, the diagnostic and the counts are those of one ending.
  pub ended : FilterRan (λ ending. FilterEndsBy writes_positions (new_position_writer o) (Unread × Kept) ending before after)
      before after code
  -- the meaning of each status
  pub all_written : code ≡ 0 → AllPositionsWritten o before after
  pub no_other : code ≡ 1 → ⊥
  pub fault_reported : code ≡ 2 → PositionsFaultReported o before after
  pub memory : code ≡ 3 → Unread × Kept
  pub reading_failed : code ≡ 4 → Rose before.input.faults after.input.faults
      × WholePositionsWritten o before after
  pub writing_failed : code ≡ 5 → WritingBroke before after × ((Unread × Kept)
      ⊎ PositionsPrefixWritten o before after)
  pub too_long : code ≡ 6 → PositionsOfLongInput o before after
  -- which status comes
  pub complete : CompletesPositions before after code
  pub faults_announced : ExportReportsFault before after code
