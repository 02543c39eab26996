-- The promise of the command `games`.
use Rattle.std.specs.Prelude.{◌≡◌, ◌⊎◌, ℕ, ◌^◌, ◌≤◌, ◌<◌, List, ◌++◌, length, Option, Some, None}
use Rattle.std.specs.Io.KnownBytes.{Appends}
use Rattle.line_io.specs.Causes.{Rose}
use Rattle.line_io.specs.Lines.{Piece, items}
use Rattle.line_io.specs.Runs.{whole}
use Rattle.line_io.specs.Source.{TakesPrefix}
use Rattle.game_record.specs.Game.{Game}
use Rattle.policy_rules.specs.declared.setting_rules.settings.Settings.{Settings}
use Rattle.adapter_core.specs.Trace.{Step}
use Rattle.replay_command_base.specs.declared.ending.Ending.{Ending}
use Rattle.replay_command_base.specs.Diagnostics.{command_diagnostic}
use Rattle.replay_command_base.specs.Ran.{FilterRan, WritingBroke}
use Rattle.replay_command_base.specs.Reads.{AreFirst, AreRead, Got, IsAll}
use Rattle.replay_command_base.specs.Streams.{FilterStreams, AreSame, HasNoFault}
use Rattle.replay_command_base.specs.Filtered.{AreAll, EndsFor, FilterEndsBy}
use Rattle.replay_command_base.specs.Outcomes.{FailsToWrite}
use Rattle.replay_command_base.specs.Putting.{reason_of_line}
use Rattle.script_replay.specs.Versions.{script_fault, settings_by, version_in}
use Rattle.session_export.specs.Outcomes.{IsSession, ExportReportsFault}
use Rattle.session_export.specs.Games.{games_over}
use Rattle.session_export.specs.GameExports.{games_due, new_game_writer, text_all, text_over}
use Rattle.session_export.specs.GameExports.{writes_games}
use Rattle.line_io.specs.declared.limits.TheConstants.{SCRIPT_LINE}

-- The output took the texts of games of the session of these lines: all, or those that were over.
pub record WritesGames (text_of : Settings → List Step → List ℕ) (o : Settings)
    (before after : FilterStreams) (lines : List Piece) : Type 0 where
  pub trace : List Step
  pub session : IsSession o lines trace
  pub written : Appends before.output.taken after.output.taken
      (text_of (settings_by (version_in lines) o) trace)

-- All of the input was read, none of its lines is a fault, all games were written, and no stream
-- failed.
pub record AllGamesWritten (o : Settings) (before after : FilterStreams) : Type 0 where
  pub got : List ℕ
  pub reads : Got before after got
  pub all_read : IsAll before.input.left got
  pub faultless : script_fault (items SCRIPT_LINE got) ≡ None
  pub games : WritesGames text_all o before after (items SCRIPT_LINE got)
  pub no_failure : AreSame before after

-- The first fault of the input was reported, and the games that were over before it were written.
pub record GamesFaultReported (o : Settings) (before after : FilterStreams) : Type 0 where
  pub fault : Ending
  pub announced : Appends before.diag.taken after.diag.taken (command_diagnostic fault)
  pub lines : List Piece
  pub read : AreRead before after lines
  pub is_fault : script_fault lines ≡ Some fault
  pub games : WritesGames text_over o before after lines

-- All whole lines that were read have no fault, and the games that were over were written.
pub record WholeGamesWritten (o : Settings) (before after : FilterStreams) : Type 0 where
  pub got : List ℕ
  pub reads : Got before after got
  pub first : AreFirst before.input.left (whole SCRIPT_LINE got)
  pub faultless : script_fault (whole SCRIPT_LINE got) ≡ None
  pub games : WritesGames text_over o before after (whole SCRIPT_LINE got)

-- so it is if the input gave at least 2^32 bytes
pub record GamesOfLongInput (o : Settings) (before after : FilterStreams) : Type 0 where
  pub games : WholeGamesWritten o before after
  pub least : 2 ^ 32 ≤ length games.got

-- all of the input was read, and none of its lines is a fault
abbrev pub AreWhole : FilterStreams → List Piece → Type 0
AreWhole before lines = AreAll before.input.left lines × (script_fault lines ≡ None)

-- A write failed. The output took a prefix of the texts of the games that were over in the first
-- lines; or of those of all games, if these lines are the whole input.
pub record GamesPrefixWritten (o : Settings) (before after : FilterStreams) : Type 0 where
  pub lines : List Piece
  pub read : AreRead before after lines
  pub why : Option Ending
  pub reason : EndsFor why before after read.got lines
  -- the last line is a fault if and only if that is why
  pub fault : script_fault lines ≡ reason_of_line why
  pub trace : List Step
  pub session : IsSession o lines trace
  pub due : FailsToWrite (games_due (settings_by (version_in lines) o) trace) why before after
  pub written :
      TakesPrefix before.output.taken after.output.taken
      (text_over (settings_by (version_in lines) o) trace)
      ⊎ (AreWhole before lines × TakesPrefix before.output.taken after.output.taken
      (text_all (settings_by (version_in lines) o) trace))

-- The games that were over in the first lines are the first of those that are over in more lines.
abbrev pub FirstGamesStay : Settings → Type 0
FirstGamesStay o =
    (lines later : List Piece) (trace trace' : List Step) → IsSession o lines trace
    → IsSession o (lines ++ later) trace' → (more : List Game)
    × (games_over (settings_by (version_in (lines ++ later)) o) trace'
    ≡ games_over (settings_by (version_in lines) o) trace ++ more)

-- The games of an input without a fault of fewer than 2^32 bytes are
-- written, or there was no memory.
abbrev pub CompletesGames : FilterStreams → FilterStreams → ℕ → Type 0
CompletesGames before after code =
    (x : List ℕ) → before.input.left ≡ Some x → length x < 2 ^ 32
    → script_fault (items SCRIPT_LINE x) ≡ None → HasNoFault before after → (code ≡ 0) ⊎ (code ≡ 3)

-- `Unread` and `Kept` say that the input and the output are just as they were.
pub record GamesWritten (o : Settings) (Unread Kept : Type 0) (before after : FilterStreams)
    (code : ℕ) : Type 0 where
  -- The status, the diagnostic and the counts are those of one ending.
  pub ended : FilterRan (λ ending. FilterEndsBy writes_games (new_game_writer o) (Unread × Kept) ending before after)
      before after code
  -- the meaning of each status
  pub all_written : code ≡ 0 → AllGamesWritten o before after
  pub no_other : code ≡ 1 → ⊥
  pub fault_reported : code ≡ 2 → GamesFaultReported o before after
  pub memory : code ≡ 3 → Unread × Kept
  pub reading_failed : code ≡ 4 → Rose before.input.faults after.input.faults
      × WholeGamesWritten o before after
  pub writing_failed : code ≡ 5 → WritingBroke before after × ((Unread × Kept)
      ⊎ GamesPrefixWritten o before after)
  -- so that this is a prefix of what is due for the whole input
  pub first_stay : FirstGamesStay o
  pub too_long : code ≡ 6 → GamesOfLongInput o before after
  -- which status comes
  pub complete : CompletesGames before after code
  pub faults_announced : ExportReportsFault before after code
