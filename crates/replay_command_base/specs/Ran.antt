-- The end of a command.
use Rattle.std.specs.Prelude.{◌≡◌, ◌≢◌, ◌⊎◌, ℕ}
use Rattle.line_io.specs.Causes.{Rose}
use Rattle.replay_command_base.specs.declared.ending.Ending.{Ending}
use Rattle.replay_command_base.specs.declared.ending.Ending.TheVariants as endings
use Rattle.replay_command_base.specs.Diagnostics.{command_status, command_diagnostic, tail_of}
use Rattle.line_io.specs.Source.{Supplied, Received}
use Rattle.replay_command_base.specs.Streams.{FilterStreams}
use Rattle.replay_command_base.specs.DiagnosticWritten.{DiagnosticWritten}

-- The status and the diagnostic are those of one ending, which is so, or the diagnostic could not
-- be written. A count of faults
-- that has no cause to rise is as before.
pub record FilterRan (Ends : Ending → Type 0) (before after : FilterStreams) (code : ℕ) : Type 0 where
  pub ending : Ending
  pub ends : Ends ending
  pub announces : DiagnosticWritten code (command_status ending) (command_diagnostic ending) before.diag after.diag
  pub reading : ending ≡ endings.ReadingFailed → Rose before.input.faults after.input.faults
  pub writing : ending ≡ endings.WritingFailed → Rose before.output.faults after.output.faults
  pub read : ending ≢ endings.ReadingFailed → ending ≢ endings.WritingFailed
      → after.input.faults ≡ before.input.faults
  pub written : ending ≢ endings.WritingFailed → after.output.faults ≡ before.output.faults

-- writing failed, to the output or to the diagnostic
abbrev pub WritingBroke : FilterStreams → FilterStreams → Type 0
WritingBroke before after =
    Rose before.output.faults after.output.faults ⊎ Rose before.diag.faults after.diag.faults

-- The arguments fit no command: that was reported, and nothing else happened. `Unread` and `Kept` say
-- that the input and the output are just as they were.
pub record Refused (Unread Kept : Type 0) (before after : FilterStreams) (code : ℕ) : Type 0 where
  pub unread : Unread
  pub kept : Kept
  pub announced : DiagnosticWritten code 2 (tail_of endings.Usage) before.diag after.diag

-- Why a run stopped. A count is as before if no failure took place.
pub record Causes (ending : Ending) (input input_now : Supplied)
    (output output_now : Received) : Type 0 where
  pub reading : ending ≡ endings.ReadingFailed → Rose input.faults input_now.faults
  pub writing : ending ≡ endings.WritingFailed → Rose output.faults output_now.faults
  pub read : ending ≢ endings.ReadingFailed → ending ≢ endings.WritingFailed
      → input_now.faults ≡ input.faults
  pub written : ending ≢ endings.WritingFailed → output_now.faults ≡ output.faults
