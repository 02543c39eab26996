-- The promise of the command `replay`.
use Rattle.std.specs.Prelude.{◌≡◌, ◌≢◌, ◌⊎◌, ⊤, ℕ, ◌^◌, ◌≤◌, ◌<◌}
use Rattle.std.specs.Prelude.{List, length, take, true, Some, None}
use Rattle.std.specs.Io.KnownBytes.{Appends}
use Rattle.line_io.specs.Causes.{Rose}
use Rattle.line_io.specs.Event.{Event}
use Rattle.line_io.specs.Lines.{Piece, items}
use Rattle.line_io.specs.Runs.{whole}
use Rattle.policy_rules.specs.SettingRules.Policy.{IsProper}
use Rattle.policy_rules.specs.declared.setting_rules.settings.Settings.{Settings}
use Rattle.adapter_core.specs.Trace.{Step, LawfulTrace, state}
use Rattle.trace_scripts.specs.Script.{events, StepLinesAreShort}
use Rattle.replay_command_base.specs.declared.ending.Ending.{Ending}
use Rattle.replay_command_base.specs.Diagnostics.{command_diagnostic}
use Rattle.replay_commands_on_core.specs.Laws.{HaveLaws}
use Rattle.replay_command_base.specs.Ran.{FilterRan, WritingBroke}
use Rattle.replay_command_base.specs.Reads.{AreFirst, AreRead, Got, IsAll}
use Rattle.replay_commands_on_core.specs.Replay.{EndsAs}
use Rattle.replay_command_base.specs.Streams.{FilterStreams, AreSame, HasNoFault}
use Rattle.script_replay.specs.Versions.{Version, First, Second, script_by, script_events}
use Rattle.script_replay.specs.Versions.{script_fault, settings_by, version_in}
use Rattle.line_io.specs.declared.limits.TheConstants.{SCRIPT_LINE}

-- The trace is the lawful one with these settings and these events: there is no other.
pub record IsTheSession (o : Settings) (happened : List Event) (trace : List Step) : Type 0 where
  pub lawful : LawfulTrace o trace
  pub events_are : events trace ≡ happened
  pub only : (other : List Step) → LawfulTrace o other → events other ≡ happened → other ≡ trace

-- the session of these lines: its settings are the header's if there is one, its
-- events those of the lines
abbrev pub IsSessionOf : Settings → List Piece → List Step → Type 0
IsSessionOf o lines trace =
    IsTheSession (settings_by (version_in lines) o) (script_events lines) trace

-- the output took the script of the session of these lines, in their version
pub record WritesScript (o : Settings) (before after : FilterStreams) (lines : List Piece) : Type 0 where
  pub trace : List Step
  pub session : IsSessionOf o lines trace
  pub short : StepLinesAreShort trace
  pub written : Appends before.output.taken after.output.taken (script_by (version_in lines) trace)

-- All of the input was read, none of its lines is a fault, its script was
-- written, and no stream failed.
pub record AllReplayed (o : Settings) (before after : FilterStreams) : Type 0 where
  pub got : List ℕ
  pub reads : Got before after got
  pub all_read : IsAll before.input.left got
  pub faultless : script_fault (items SCRIPT_LINE got) ≡ None
  pub script : WritesScript o before after (items SCRIPT_LINE got)
  pub no_failure : AreSame before after

-- The first fault of the input was reported, and the script of the lines before it was written.
pub record ReplayFaultReported (o : Settings) (before after : FilterStreams) : Type 0 where
  pub fault : Ending
  pub announced : Appends before.diag.taken after.diag.taken (command_diagnostic fault)
  pub lines : List Piece
  pub read : AreRead before after lines
  pub is_fault : script_fault lines ≡ Some fault
  pub script : WritesScript o before after lines

-- All whole lines that were read have no fault, and their script was written.
pub record WholeReplayed (o : Settings) (before after : FilterStreams) : Type 0 where
  pub got : List ℕ
  pub reads : Got before after got
  pub first : AreFirst before.input.left (whole SCRIPT_LINE got)
  pub faultless : script_fault (whole SCRIPT_LINE got) ≡ None
  pub script : WritesScript o before after (whole SCRIPT_LINE got)

-- so it is if the input gave at least 2^32 bytes
pub record MuchReplayed (o : Settings) (before after : FilterStreams) : Type 0 where
  pub replayed : WholeReplayed o before after
  pub least : 2 ^ 32 ≤ length replayed.got

-- The output took a prefix of the script of the session of the first lines.
pub record ReplayPrefixWritten (o : Settings) (before after : FilterStreams) : Type 0 where
  pub lines : List Piece
  pub read : AreRead before after lines
  pub trace : List Step
  pub session : IsSessionOf o lines trace
  pub prefix : ℕ
  pub written : Appends before.output.taken after.output.taken
      (take prefix (script_by (version_in lines) trace))

-- An input without a fault of fewer than 2^32 bytes is replayed, or there was no memory.
abbrev pub CompletesReplay : FilterStreams → FilterStreams → ℕ → Type 0
CompletesReplay before after code =
    (x : List ℕ) → before.input.left ≡ Some x → length x < 2 ^ 32
    → script_fault (items SCRIPT_LINE x) ≡ None → HasNoFault before after → (code ≡ 0) ⊎ (code ≡ 3)

-- The first fault of an input of fewer than 2^32 bytes is reported, or there was no memory.
abbrev pub ReplayReportsFault : FilterStreams → FilterStreams → ℕ → Type 0
ReplayReportsFault before after code =
    (x : List ℕ) (fault : Ending) → before.input.left ≡ Some x → length x < 2 ^ 32
    → script_fault (items SCRIPT_LINE x) ≡ Some fault → HasNoFault before after
    → ((code ≡ 2) × Appends before.diag.taken after.diag.taken (command_diagnostic fault)) ⊎ (code ≡ 3)

-- the settings of the header, if there is one, are proper
abbrev pub IsProperIn : Version → Type 0
IsProperIn First = ⊤
IsProperIn (Second settings) = IsProper settings

-- If the input is the script, of any version, of a lawful trace that has its Open step, that
-- script was written, except for lack of memory and failures.
abbrev pub WritesItAgain : Settings → FilterStreams → FilterStreams → ℕ → Type 0
WritesItAgain o before after code =
    (version : Version) (trace : List Step) → IsProperIn version
    → LawfulTrace (settings_by version o) trace
    → (state (settings_by version o) trace).ends.opened ≡ true
    → before.input.left ≡ Some (script_by version trace)
    → code ≢ 3 → code ≢ 4 → code ≢ 5 → code ≢ 6
    → (code ≡ 0) × Appends before.output.taken after.output.taken (script_by version trace)

-- `Unread` and `Kept` say that the input and the output are just as they were.
pub record Replayed (o : Settings) (Unread Kept : Type 0) (before after : FilterStreams)
    (code : ℕ) : Type 0 where
  pub ended : FilterRan (λ ending. EndsAs o (Unread × Kept) ending before after) before after code
  -- the meaning of each status
  pub all_replayed : code ≡ 0 → AllReplayed o before after
  pub fault_reported : code ≡ 2 → ReplayFaultReported o before after
  pub reading_failed : code ≡ 4 → Rose before.input.faults after.input.faults
      × WholeReplayed o before after
  pub writing_failed : code ≡ 5 → WritingBroke before after × ((Unread × Kept)
      ⊎ ReplayPrefixWritten o before after)
  pub too_long : code ≡ 6 → MuchReplayed o before after
  -- which status comes
  pub complete : CompletesReplay before after code
  pub faults_announced : ReplayReportsFault before after code
  pub again : WritesItAgain o before after code
  -- of the session
  pub laws : HaveLaws o
