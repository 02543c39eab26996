-- The text that is written of an ending, and of texts with a status.
use Rattle.std.specs.Prelude.{◌≡◌, ◌⊎◌, ℕ, List}
use Rattle.std.specs.Io.KnownBytes.{Appends}
use Rattle.line_io.specs.Causes.{Rose}
use Rattle.line_io.specs.Source.{Received, TakesPrefix}
use Rattle.replay_command_base.specs.declared.ending.Ending.TheVariants as endings
use Rattle.replay_command_base.specs.Diagnostics.{tail_of}

-- a diagnostic was written and the status is this one, or it could not be written and the status
-- is 5
abbrev pub DiagnosticWritten : ℕ → ℕ → List ℕ → Received → Received → Type 0
DiagnosticWritten code status text diag diag_now =
    ((code ≡ status) × Appends diag.taken diag_now.taken text × (diag_now.faults ≡ diag.faults))
    ⊎ ((code ≡ 5) × Rose diag.faults diag_now.faults × TakesPrefix diag.taken diag_now.taken text)

-- all lines were written, or a prefix of them
abbrev pub LinesWritten : List ℕ → Type 0 → ℕ → Received → Received → Received → Received → Type 0
LinesWritten lines silent code output output_now diag diag_now =
    ((code ≡ 0) × silent × Appends output.taken output_now.taken lines
    × (output_now.faults ≡ output.faults))
    ⊎ (Rose output.faults output_now.faults × TakesPrefix output.taken output_now.taken lines
    × DiagnosticWritten code 5 (tail_of endings.WritingFailed) diag diag_now)
