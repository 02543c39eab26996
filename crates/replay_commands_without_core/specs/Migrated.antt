-- The promise of the command `migrate`.
use Rattle.std.specs.Prelude.{◌≡◌, ◌⊎◌, ℕ, ◌^◌, ◌≤◌, ◌<◌, List, ◌++◌, length, take, Some}
use Rattle.std.specs.Io.KnownBytes.{Appends}
use Rattle.line_io.specs.Causes.{Rose}
use Rattle.line_io.specs.Lines.{Piece, items}
use Rattle.line_io.specs.Runs.{whole}
use Rattle.policy_rules.specs.declared.setting_rules.settings.Settings.{Settings}
use Rattle.adapter_core.specs.Trace.{Step}
use Rattle.trace_scripts.specs.Script.{script1, script2}
use Rattle.replay_command_base.specs.declared.ending.Ending.TheVariants as endings
use Rattle.replay_command_base.specs.Diagnostics.{command_diagnostic}
use Rattle.replay_command_base.specs.Ran.{FilterRan, WritingBroke}
use Rattle.replay_command_base.specs.Reads.{AreFirst, AreRead, Got, IsAll}
use Rattle.replay_command_base.specs.Streams.{FilterStreams, AreSame, HasNoFault}
use Rattle.replay_command_base.specs.Filtered.{FilterEndsBy}
use Rattle.replay_commands_without_core.specs.Begun.{unbegun_script, migration_meaning}
use Rattle.replay_commands_without_core.specs.Migration.{AreMarked, IsUnmarked, script_with_header}
use Rattle.replay_commands_without_core.specs.Traces.{IsMarked}
use Rattle.line_io.specs.declared.limits.TheConstants.{SCRIPT_LINE}

-- All of the input was read, each line has a mark, the script of version 2 or 3 was
-- written, and no stream failed.
pub record AllMigrated (settings : Settings) (before after : FilterStreams) : Type 0 where
  pub got : List ℕ
  pub reads : Got before after got
  pub all_read : IsAll before.input.left got
  pub marked : AreMarked (items SCRIPT_LINE got)
  pub written : Appends before.output.taken after.output.taken
      (script_with_header settings (items SCRIPT_LINE got))
  pub no_failure : AreSame before after

-- The first line without a mark was reported, and what is due for the lines before it was written.
pub record UnmarkedReported (settings : Settings) (before after : FilterStreams) : Type 0 where
  pub number : ℕ
  pub lines : List Piece
  pub read : AreRead before after lines
  pub unmarked : IsUnmarked number lines
  pub written : Appends before.output.taken after.output.taken (script_with_header settings lines)
  pub announced : Appends before.diag.taken after.diag.taken (command_diagnostic (endings.NoMark number))

-- All whole lines that were read have marks, and what is due for them was written.
pub record WholeMigrated (settings : Settings) (before after : FilterStreams) : Type 0 where
  pub got : List ℕ
  pub reads : Got before after got
  pub first : AreFirst before.input.left (whole SCRIPT_LINE got)
  pub marked : AreMarked (whole SCRIPT_LINE got)
  pub written : Appends before.output.taken after.output.taken
      (script_with_header settings (whole SCRIPT_LINE got))

-- so it is if the input gave at least 2^32 bytes
pub record MuchMigrated (settings : Settings) (before after : FilterStreams) : Type 0 where
  pub whole_lines : WholeMigrated settings before after
  pub least : 2 ^ 32 ≤ length whole_lines.got

-- The output took a prefix of what is due for the first lines.
pub record PrefixMigrated (settings : Settings) (before after : FilterStreams) : Type 0 where
  pub lines : List Piece
  pub read : AreRead before after lines
  pub prefix : ℕ
  pub written : Appends before.output.taken after.output.taken
      (take prefix (script_with_header settings lines))

-- An input of fewer than 2^32 bytes whose lines all have marks is migrated, or there was no memory.
abbrev pub CompletesMigration : FilterStreams → FilterStreams → ℕ → Type 0
CompletesMigration before after code =
    (x : List ℕ) → before.input.left ≡ Some x → length x < 2 ^ 32
    → AreMarked (items SCRIPT_LINE x) → HasNoFault before after → (code ≡ 0) ⊎ (code ≡ 3)

-- The first line without a mark of an input of fewer than 2^32 bytes is
-- reported, or there was no memory.
abbrev pub ReportsUnmarked : FilterStreams → FilterStreams → ℕ → Type 0
ReportsUnmarked before after code =
    (x : List ℕ) (number : ℕ) (lines more : List Piece) → before.input.left ≡ Some x
    → length x < 2 ^ 32
    → items SCRIPT_LINE x ≡ lines ++ more → IsUnmarked number lines → HasNoFault before after
    → ((code ≡ 2) × Appends before.diag.taken after.diag.taken (command_diagnostic (endings.NoMark number)))
    ⊎ (code ≡ 3)

-- If the input is the script of version 1 of a trace, its script of version 2 or 3 was written. The
-- trace need not be lawful.
abbrev pub MigratesScripts : Settings → FilterStreams → FilterStreams → ℕ → Type 0
MigratesScripts settings before after code =
    (trace : List Step) → IsMarked trace → before.input.left ≡ Some (script1 trace) → code ≡ 0
    → Appends before.output.taken after.output.taken (script2 settings trace)

-- `Unread` and `Kept` say that the input and the output are just as they were.
pub record Migrated (settings : Settings) (Unread Kept : Type 0) (before after : FilterStreams)
    (code : ℕ) : Type 0 where
  -- The status, the diagnostic and the counts are those of one ending.
  pub ended : FilterRan (λ ending. FilterEndsBy migration_meaning (unbegun_script settings) (Unread × Kept) ending before after)
      before after code
  -- the meaning of each status
  pub all_migrated : code ≡ 0 → AllMigrated settings before after
  pub no_other : code ≡ 1 → ⊥
  pub unmarked : code ≡ 2 → UnmarkedReported settings before after
  pub memory : code ≡ 3 → Unread × Kept
  pub reading_failed : code ≡ 4 → Rose before.input.faults after.input.faults
      × WholeMigrated settings before after
  pub writing_failed : code ≡ 5 → WritingBroke before after × ((Unread × Kept)
      ⊎ PrefixMigrated settings before after)
  pub too_long : code ≡ 6 → MuchMigrated settings before after
  -- which status comes
  pub complete : CompletesMigration before after code
  pub faults_announced : ReportsUnmarked before after code
  pub scripts : MigratesScripts settings before after code
