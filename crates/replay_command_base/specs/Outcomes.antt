-- The meaning of the status of a run.
use Rattle.std.specs.Prelude.{◌≡◌, ◌⊎◌, ℕ, ◌^◌, ◌<◌, List, length, Option, Some}
use Rattle.std.specs.Io.KnownBytes.{Appends}
use Rattle.line_io.specs.Causes.{Rose}
use Rattle.line_io.specs.Lines.{Piece}
use Rattle.replay_command_base.specs.declared.ending.Ending.{Ending}
use Rattle.replay_command_base.specs.declared.ending.Ending.TheVariants as endings
use Rattle.replay_command_base.specs.Diagnostics.{command_status, command_diagnostic}
use Rattle.replay_command_base.specs.Ran.{WritingBroke}
use Rattle.replay_command_base.specs.Reads.{AreRead}
use Rattle.replay_command_base.specs.Streams.{FilterStreams, AreSame, HasNoFault}
use Rattle.replay_command_base.specs.Putting.{Putting, IsOfLine}
use Rattle.replay_command_base.specs.Filtered.{EndsRightly, WroteAll, WrotePrefix, WroteTo, WroteWhole}

-- A line was the reason to end, and that was reported.
pub record LineReported {S : Type 0} (means : Putting S) (s0 : S) (before after : FilterStreams)
    (code : ℕ) : Type 0 where
  pub ending : Ending
  pub of_line : IsOfLine ending
  pub code_is : code ≡ command_status ending
  pub wrote : WroteTo means s0 ending before after
  pub announced : Appends before.diag.taken after.diag.taken (command_diagnostic ending)

-- The text of the first lines was written, whatever ended them, and only the diagnostic could not be.
pub record WroteLast {S : Type 0} (means : Putting S) (s0 : S)
    (before after : FilterStreams) : Type 0 where
  pub ending : Ending
  pub lines : List Piece
  pub read : AreRead before after lines
  pub reason : EndsRightly before after read.got lines ending
  pub text : List ℕ
  pub says : means.says s0 lines ending text
  pub written : Appends before.output.taken after.output.taken text
  pub no_failure : after.output.faults ≡ before.output.faults
  pub failure : Rose before.diag.faults after.diag.faults

-- All that is due for this reason was written, and only its diagnostic could not be.
pub record WroteDue (due : Ending → List ℕ) (why : Option Ending) (before after : FilterStreams)
    : Type 0 where
  pub ending : Ending
  pub is_why : why ≡ Some ending
  pub written : Appends before.output.taken after.output.taken (due ending)
  pub no_failure : after.output.faults ≡ before.output.faults
  pub failure : Rose before.diag.faults after.diag.faults

-- a write to the output failed, or all that is due was written, and only the diagnostic was not
abbrev pub FailsToWrite : (Ending → List ℕ) → Option Ending → FilterStreams → FilterStreams → Type 0
FailsToWrite due why before after =
    Rose before.output.faults after.output.faults ⊎ WroteDue due why before after

-- the meaning of each status of the run of a line filter
pub record Outcome {S : Type 0} (means : Putting S) (s0 : S) (Untouched : Type 0)
    (before after : FilterStreams) (code : ℕ) : Type 0 where
  pub done : code ≡ 0 → WroteAll means s0 before after × AreSame before after
  pub found : code ≡ 1 → LineReported means s0 before after 1
  pub fault : code ≡ 2 → LineReported means s0 before after 2
  pub memory : code ≡ 3 → Untouched
  pub reading : code ≡ 4
      → Rose before.input.faults after.input.faults
      × WroteWhole means s0 endings.ReadingFailed 0 before after
  pub writing : code ≡ 5
      → WritingBroke before after
      × (Untouched ⊎ WrotePrefix means s0 before after ⊎ WroteLast means s0 before after)
  pub too_long : code ≡ 6 → WroteWhole means s0 endings.TooLong (2 ^ 32) before after
  -- an input of fewer than 2^32 bytes is taken up to its end or to a line that is the reason to
  -- end, or there was no memory
  pub complete : (x : List ℕ) → before.input.left ≡ Some x → length x < 2 ^ 32
      → HasNoFault before after
      → ((code ≡ 0) × WroteAll means s0 before after) ⊎ LineReported means s0 before after code
      ⊎ (code ≡ 3)
