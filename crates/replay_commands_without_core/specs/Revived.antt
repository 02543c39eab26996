-- The promise of the command `revive`.
use Rattle.std.specs.Prelude.{◌≡◌, ◌⊎◌, ℕ, ◌^◌, ◌≤◌, ◌<◌, List, length, map, take, Some}
use Rattle.std.specs.Io.KnownBytes.{Appends}
use Rattle.line_io.specs.Causes.{Rose}
use Rattle.line_io.specs.Event.{Event}
use Rattle.line_io.specs.Lines.{Piece, items}
use Rattle.line_io.specs.Runs.{whole}
use Rattle.script_lines.specs.Marks.{Happens}
use Rattle.script_lines.specs.Scripts.{MarksAreSpelled}
use Rattle.replay_command_base.specs.declared.ending.Ending.{Ending}
use Rattle.replay_command_base.specs.Diagnostics.{command_diagnostic}
use Rattle.replay_command_base.specs.Ran.{FilterRan, WritingBroke}
use Rattle.replay_command_base.specs.Reads.{AreFirst, AreRead, Got, IsAll}
use Rattle.replay_command_base.specs.Streams.{FilterStreams, AreSame, HasNoFault}
use Rattle.replay_command_base.specs.Filtered.{FilterEndsBy}
use Rattle.engine_revival.specs.Script.{AllMayHappen, revival_script}
use Rattle.engine_revival.specs.Steps.{opening_revival}
use Rattle.engine_revival.specs.Talk.{IsLawfulTalk}
use Rattle.replay_commands_without_core.specs.Played.{ArePlayed, IsFirstUnplayed, played_events, revival_of_lines}
use Rattle.replay_commands_without_core.specs.Reviving.{revives}
use Rattle.line_io.specs.declared.limits.TheConstants.{SCRIPT_LINE}

-- All of the input was read and played, what is written for it was written, and no stream failed.
pub record AllRevived (lives : ℕ) (before after : FilterStreams) : Type 0 where
  pub got : List ℕ
  pub reads : Got before after got
  pub all_read : IsAll before.input.left got
  pub played : ArePlayed lives (items SCRIPT_LINE got)
  pub written : Appends before.output.taken after.output.taken
      (revival_of_lines lives (items SCRIPT_LINE got))
  pub no_failure : AreSame before after

-- The first line that is not played was reported, and what is written for the
-- lines before it was written.
pub record ReviveFaultReported (lives : ℕ) (before after : FilterStreams) : Type 0 where
  pub fault : Ending
  pub lines : List Piece
  pub read : AreRead before after lines
  pub is_fault : IsFirstUnplayed lives lines fault
  pub written : Appends before.output.taken after.output.taken
      (revival_of_lines lives is_fault.before)
  pub announced : Appends before.diag.taken after.diag.taken (command_diagnostic fault)

-- All whole lines that were read were played, and what is written for them was written.
pub record WholeRevived (lives : ℕ) (before after : FilterStreams) : Type 0 where
  pub got : List ℕ
  pub reads : Got before after got
  pub first : AreFirst before.input.left (whole SCRIPT_LINE got)
  pub played : ArePlayed lives (whole SCRIPT_LINE got)
  pub written : Appends before.output.taken after.output.taken
      (revival_of_lines lives (whole SCRIPT_LINE got))

-- so it is if the input gave at least 2^32 bytes
pub record MuchRevived (lives : ℕ) (before after : FilterStreams) : Type 0 where
  pub whole_lines : WholeRevived lives before after
  pub least : 2 ^ 32 ≤ length whole_lines.got

-- The output took a prefix of what is written for the first lines, which were played.
pub record PrefixRevived (lives : ℕ) (before after : FilterStreams) : Type 0 where
  pub lines : List Piece
  pub read : AreRead before after lines
  pub played : ArePlayed lives lines
  pub prefix : ℕ
  pub written : Appends before.output.taken after.output.taken
      (take prefix (revival_of_lines lives lines))

-- An input of fewer than 2^32 bytes is played to its end or to the first line that is not
-- played, or there was no memory.
abbrev pub CompletesRevival : ℕ → FilterStreams → FilterStreams → ℕ → Type 0
CompletesRevival lives before after code =
    (x : List ℕ) → before.input.left ≡ Some x → length x < 2 ^ 32 → HasNoFault before after
    → ((code ≡ 0) × AllRevived lives before after)
    ⊎ ((code ≡ 2) × ReviveFaultReported lives before after) ⊎ (code ≡ 3)

-- So an input whose lines are all played is played to its end, or there was no memory.
abbrev pub RevivesAll : ℕ → FilterStreams → FilterStreams → ℕ → Type 0
RevivesAll lives before after code =
    (x : List ℕ) → before.input.left ≡ Some x → length x < 2 ^ 32
    → ArePlayed lives (items SCRIPT_LINE x) → HasNoFault before after → (code ≡ 0) ⊎ (code ≡ 3)

-- The script that is written for events is written for it again: its lines that
-- were written are ignored.
abbrev pub RevivesAgain : ℕ → FilterStreams → FilterStreams → ℕ → Type 0
RevivesAgain lives before after code =
    (events : List Event) → MarksAreSpelled (map Happens events) → AllMayHappen (opening_revival lives) events
    → before.input.left ≡ Some (revival_script lives events)
    → length (revival_script lives events) < 2 ^ 32 → HasNoFault before after
    → ((code ≡ 0) × Appends before.output.taken after.output.taken (revival_script lives events))
    ⊎ (code ≡ 3)

-- The talk up to each line is lawful, if the lines before it are played.
abbrev pub TalksLawfully : ℕ → FilterStreams → FilterStreams → Type 0
TalksLawfully lives before after =
    (lines : List Piece) → AreRead before after lines → ArePlayed lives lines
    → IsLawfulTalk lives (played_events lines)

-- `Untouched` says that the input and the output are just as they were.
pub record ReviveCommandIs (lives : ℕ) (Untouched : Type 0) (before after : FilterStreams)
    (code : ℕ) : Type 0 where
  pub ended : FilterRan (λ ending. FilterEndsBy revives (opening_revival lives) Untouched ending before after)
      before after code
  -- the meaning of each status
  pub all_revived : code ≡ 0 → AllRevived lives before after
  pub no_other : code ≡ 1 → ⊥
  pub fault_reported : code ≡ 2 → ReviveFaultReported lives before after
  pub memory : code ≡ 3 → Untouched
  pub reading_failed : code ≡ 4 → Rose before.input.faults after.input.faults
      × WholeRevived lives before after
  pub writing_failed : code ≡ 5 → WritingBroke before after × (Untouched
      ⊎ PrefixRevived lives before after)
  pub too_long : code ≡ 6 → MuchRevived lives before after
  pub lawful : TalksLawfully lives before after
  -- which status comes
  pub complete : CompletesRevival lives before after code
  pub plays_all : RevivesAll lives before after code
  pub again : RevivesAgain lives before after code
