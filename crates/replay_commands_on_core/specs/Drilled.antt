-- The behaviour of the command `drill`, and its promise.
use Rattle.std.specs.Prelude.{◌≡◌, ◌⊎◌, ℕ, List}
use Rattle.std.specs.Io.KnownBytes.{Appends}
use Rattle.line_io.specs.Source.{Received, TakesPrefix}
use Rattle.random_games.specs.Played.{Drills}
use Rattle.replay_command_base.specs.declared.ending.Ending.TheVariants as endings
use Rattle.replay_command_base.specs.Diagnostics.{tail_of}
use Rattle.replay_command_base.specs.Ran.{WritingBroke}
use Rattle.replay_command_base.specs.Streams.{FilterStreams, HasNoFault}
use Rattle.replay_command_base.specs.DiagnosticWritten.{DiagnosticWritten, LinesWritten}

-- The course of a drill. Nothing is written to the output if there is no memory.
pub data PlaysDrill (number count : ℕ) (kept silent : Type 0) (code : ℕ)
    (output output_now diag diag_now : Received) : Type 0 where
  WantsMemory : kept → DiagnosticWritten code 3 (tail_of endings.NoMemory) diag diag_now
      → PlaysDrill number count kept silent code output output_now diag diag_now
  Plays : (line : List ℕ) → Drills number count line → LinesWritten line silent code output output_now
      diag diag_now
      → PlaysDrill number count kept silent code output output_now diag diag_now

-- the output took the line of the drill, which has no other
pub record DrillsAll (number count : ℕ) (output output_now : Received) : Type 0 where
  pub line : List ℕ
  pub drills : Drills number count line
  pub only : (other : List ℕ) → Drills number count other → other ≡ line
  pub written : Appends output.taken output_now.taken line

-- the output took a prefix of the line of the drill
pub record DrillsPrefix (number count : ℕ) (output output_now : Received) : Type 0 where
  pub line : List ℕ
  pub drills : Drills number count line
  pub written : TakesPrefix output.taken output_now.taken line

-- the line of the drill was written, and nothing to the diagnostic
pub record DrillWritten (number count : ℕ) (Silent : Type 0) (before after : FilterStreams) : Type 0 where
  pub line : DrillsAll number count before.output after.output
  pub silent : Silent
  pub no_failure : after.output.faults ≡ before.output.faults

-- `Unread`, `Kept` and `Silent` say that the input, the output and the diagnostic are just as they
-- were.
pub record Drilled (number count : ℕ) (Unread Kept Silent : Type 0) (before after : FilterStreams)
    (code : ℕ) : Type 0 where
  pub unread : Unread
  pub ended : PlaysDrill number count Kept Silent code before.output after.output before.diag
      after.diag
  -- the meaning of each status
  pub all_played : code ≡ 0 → DrillWritten number count Silent before after
  pub no_memory : code ≡ 3 → Kept
  pub writing_failed : code ≡ 5
      → WritingBroke before after × (Kept ⊎ DrillsPrefix number count before.output after.output)
  pub no_reading : (code ≡ 4 → ⊥) × (code ≡ 6 → ⊥)
  -- which status comes
  pub complete : HasNoFault before after → (code ≡ 0) ⊎ (code ≡ 3)
