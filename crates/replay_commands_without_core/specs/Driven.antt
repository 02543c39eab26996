-- The promise of the command `drive`.
use Rattle.std.specs.Prelude.{◌≡◌, ◌⊎◌, ℕ, ◌^◌, ◌≤◌, ◌<◌, List, length, take, Some}
use Rattle.std.specs.Io.KnownBytes.{Appends}
use Rattle.line_io.specs.Causes.{Rose}
use Rattle.line_io.specs.Event.{Event}
use Rattle.line_io.specs.Lines.{Piece, items}
use Rattle.line_io.specs.Runs.{whole}
use Rattle.replay_command_base.specs.declared.ending.Ending.{Ending}
use Rattle.replay_command_base.specs.Diagnostics.{command_diagnostic}
use Rattle.replay_command_base.specs.Ran.{FilterRan, WritingBroke}
use Rattle.replay_command_base.specs.Reads.{Got, IsAll, AreFirst, AreRead}
use Rattle.replay_command_base.specs.Streams.{FilterStreams, AreSame, HasNoFault}
use Rattle.replay_command_base.specs.Filtered.{FilterEndsBy}
use Rattle.cecp_driver.specs.Driver.{opening_driver}
use Rattle.cecp_driver.specs.Runs.{IsScriptOfDrive}
use Rattle.replay_commands_without_core.specs.Scripts.{IsDriven, IsFirstUndriven, drive_filter_meaning}
use Rattle.line_io.specs.declared.limits.TheConstants.{SCRIPT_LINE}

-- All of the input was read, its lines are marks of events that may come and of written lines, and
-- the script of a driver that takes these events was written.
pub record AllDriven (before after : FilterStreams) : Type 0 where
  pub got : List ℕ
  pub reads : Got before after got
  pub all_read : IsAll before.input.left got
  pub text : List ℕ
  pub driven : IsDriven (items SCRIPT_LINE got) text
  pub written : Appends before.output.taken after.output.taken text

-- The first line that has no mark, or whose event may not come, was reported, and the script of the
-- lines before it was written.
pub record DriveFaultReported (before after : FilterStreams) : Type 0 where
  pub fault : Ending
  pub announced : Appends before.diag.taken after.diag.taken (command_diagnostic fault)
  pub lines : List Piece
  pub read : AreRead before after lines
  pub text : List ℕ
  pub is_fault : IsFirstUndriven lines fault text
  pub written : Appends before.output.taken after.output.taken text

-- All whole lines that were read are without a fault, and the script of them was written.
pub record WholeDriven (least : ℕ) (before after : FilterStreams) : Type 0 where
  pub got : List ℕ
  pub reads : Got before after got
  pub least_is : least ≤ length got
  pub first : AreFirst before.input.left (whole SCRIPT_LINE got)
  pub text : List ℕ
  pub driven : IsDriven (whole SCRIPT_LINE got) text
  pub written : Appends before.output.taken after.output.taken text

-- The output took a prefix of the script of the first lines.
pub record PrefixDriven (before after : FilterStreams) : Type 0 where
  pub lines : List Piece
  pub read : AreRead before after lines
  pub text : List ℕ
  pub driven : IsDriven lines text ⊎ ((fault : Ending) × IsFirstUndriven lines fault text)
  pub prefix : ℕ
  pub written : Appends before.output.taken after.output.taken (take prefix text)

-- An input of fewer than 2^32 bytes is driven to its end or to its first
-- fault, or there was no memory.
abbrev pub CompletesDrive : FilterStreams → FilterStreams → ℕ → Type 0
CompletesDrive before after code =
    (x : List ℕ) → before.input.left ≡ Some x → length x < 2 ^ 32 → HasNoFault before after
    → ((code ≡ 0) × AllDriven before after) ⊎ ((code ≡ 2) × DriveFaultReported before after) ⊎ (code ≡ 3)

-- An input whose lines have no fault, and whose script is this, is driven to its end, and the
-- script is written; or there was no memory.
abbrev pub DrivesAll : FilterStreams → FilterStreams → ℕ → Type 0
DrivesAll before after code =
    (x text : List ℕ) → before.input.left ≡ Some x → length x < 2 ^ 32
    → IsDriven (items SCRIPT_LINE x) text → HasNoFault before after
    → ((code ≡ 0) × Appends before.output.taken after.output.taken text) ⊎ (code ≡ 3)

-- A script is written again for itself: the lines that were written are ignored.
abbrev pub DrivesAgain : FilterStreams → FilterStreams → ℕ → Type 0
DrivesAgain before after code =
    (events : List Event) (text : List ℕ) → IsScriptOfDrive events text
    → before.input.left ≡ Some text → length text < 2 ^ 32 → HasNoFault before after
    → ((code ≡ 0) × Appends before.output.taken after.output.taken text) ⊎ (code ≡ 3)

-- `Untouched` says that the input and the output are just as they were.
pub record DriveCommandIs (Untouched : Type 0) (before after : FilterStreams) (code : ℕ) : Type 0 where
  -- The status, the diagnostic and the counts are those of one ending.
  pub ended : FilterRan (λ ending. FilterEndsBy drive_filter_meaning opening_driver Untouched ending before after) before after code
  -- the meaning of each status
  pub all_driven : code ≡ 0 → AllDriven before after × AreSame before after
  pub no_other : code ≡ 1 → ⊥
  pub fault_reported : code ≡ 2 → DriveFaultReported before after
  pub memory : code ≡ 3 → Untouched
  pub reading_failed : code ≡ 4
      → Rose before.input.faults after.input.faults × WholeDriven 0 before after
  pub writing_failed : code ≡ 5 → WritingBroke before after × (Untouched ⊎ PrefixDriven before after)
  pub too_long : code ≡ 6 → WholeDriven (2 ^ 32) before after
  -- which status comes
  pub complete : CompletesDrive before after code
  pub plays_all : DrivesAll before after code
  pub again : DrivesAgain before after code
