-- The promise of the command `check`.
use Rattle.std.specs.Prelude.{◌≡◌, ◌≢◌, ◌⊎◌, ◌↔◌, ℕ, ◌^◌, ◌<◌, List, length, Some, None}
use Rattle.std.specs.Io.KnownBytes.{Appends}
use Rattle.line_io.specs.Causes.{Rose}
use Rattle.line_io.specs.Lines.{items}
use Rattle.policy_rules.specs.declared.setting_rules.settings.Settings.{Settings}
use Rattle.replay_command_base.specs.declared.ending.Ending.{Ending}
use Rattle.replay_command_base.specs.declared.ending.Ending.TheVariants as endings
use Rattle.replay_commands_on_core.specs.Check.{AreScript, BeginsWhole, BeginsMuch, ChecksAs}
use Rattle.replay_commands_on_core.specs.Check.{Differs, Finds, IsLawfulScript, WritesPart}
use Rattle.replay_command_base.specs.Diagnostics.{command_status, command_diagnostic}
use Rattle.replay_commands_on_core.specs.Verdict.{check_verdict}
use Rattle.replay_commands_on_core.specs.Laws.{HaveLaws}
use Rattle.replay_command_base.specs.Ran.{FilterRan, WritingBroke}
use Rattle.replay_command_base.specs.Streams.{FilterStreams, AreSame, HasNoFault}
use Rattle.script_replay.specs.Versions.{script_fault}
use Rattle.line_io.specs.declared.limits.TheConstants.{SCRIPT_LINE}

-- All of the input was read and is the script of a lawful trace, that was written, and no stream
-- failed.
pub record InputFoundLawful (o : Settings) (before after : FilterStreams) : Type 0 where
  pub script : IsLawfulScript o before after
  pub written : Appends before.output.taken after.output.taken (check_verdict endings.Done)
  pub no_failure : AreSame before after

-- The line that differs was found and written, and no stream failed.
pub record FoundDifference (o : Settings) (before after : FilterStreams) : Type 0 where
  pub number : ℕ
  pub differs : Differs o number before after
  pub written : Appends before.output.taken after.output.taken (check_verdict (endings.Differs number))
  pub no_failure : AreSame before after

-- A line that has no mark, or whose event may not come, was found and reported. Nothing
-- was written to the output.
pub record FoundBadLine (o : Settings) (Kept : Type 0) (before after : FilterStreams) : Type 0 where
  pub fault : Ending
  pub is_fault : command_status fault ≡ 2
  pub found : Finds o fault before after
  pub announced : Appends before.diag.taken after.diag.taken (command_diagnostic fault)
  pub unwritten : Kept

-- A check of an input answers 0 if and only if its lines are the script of a lawful trace, except
-- for lack of memory and failures.
abbrev pub IsExactCheck : Settings → FilterStreams → ℕ → Type 0
IsExactCheck o before code =
    (x : List ℕ) → before.input.left ≡ Some x → code ≢ 3 → code ≢ 4 → code ≢ 5 → code ≢ 6
    → (code ≡ 0) ↔ AreScript o (items SCRIPT_LINE x)

-- An input of fewer than 2^32 bytes is checked, or there was no memory.
abbrev pub CompletesCheck : FilterStreams → FilterStreams → ℕ → Type 0
CompletesCheck before after code =
    (x : List ℕ) → before.input.left ≡ Some x → length x < 2 ^ 32 → HasNoFault before after
    → (code ≡ 0) ⊎ (code ≡ 1) ⊎ (code ≡ 2) ⊎ (code ≡ 3)

-- If moreover each line has a mark, is in step and its event may come, it is lawful or differs.
abbrev pub CompletesMarked : FilterStreams → FilterStreams → ℕ → Type 0
CompletesMarked before after code =
    (x : List ℕ) → before.input.left ≡ Some x → length x < 2 ^ 32
    → script_fault (items SCRIPT_LINE x) ≡ None → HasNoFault before after
    → (code ≡ 0) ⊎ (code ≡ 1) ⊎ (code ≡ 3)

-- `Unread` and `Kept` say that the input and the output are just as they were.
pub record Checked (o : Settings) (Unread Kept : Type 0) (before after : FilterStreams)
    (code : ℕ) : Type 0 where
  pub ended : FilterRan (λ ending. ChecksAs o Unread Kept ending before after) before after code
  -- the meaning of each status
  pub lawful : code ≡ 0 → InputFoundLawful o before after
  pub differs : code ≡ 1 → FoundDifference o before after
  pub bad_line : code ≡ 2 → FoundBadLine o Kept before after
  pub reading_failed : code ≡ 4 → Rose before.input.faults after.input.faults
      × BeginsWhole o before after × Kept
  pub writing_failed : code ≡ 5 → WritingBroke before after × ((Unread × Kept)
      ⊎ WritesPart o before after)
  pub too_long : code ≡ 6 → BeginsMuch o before after × Kept
  -- which status comes
  pub exact : IsExactCheck o before code
  pub complete : CompletesCheck before after code
  pub complete_marked : CompletesMarked before after code
  -- of the session
  pub laws : HaveLaws o
