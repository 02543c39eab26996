-- The text that `check` writes of what it found.
use Rattle.std.specs.Prelude.{◌≡◌, ◌≢◌, ◌⊎◌, ℕ, List, [], ◌++◌, codes, decimal}
use Rattle.std.specs.Io.KnownBytes.{Appends}
use Rattle.line_io.specs.Causes.{Rose}
use Rattle.line_io.specs.Source.{Received, TakesPrefix}
use Rattle.replay_command_base.specs.declared.ending.Ending.{Ending}
use Rattle.replay_command_base.specs.declared.ending.Ending.TheVariants as endings
use Rattle.replay_command_base.specs.Diagnostics.{one_line}

-- the text of `check` for an input that is the script of a lawful trace, or that differs
abbrev pub check_verdict : Ending → List ℕ
check_verdict endings.Done = one_line (codes "lawful")
check_verdict (endings.Differs n) = one_line (codes "differs at line " ++ decimal n)
check_verdict e = []

-- the finding was written, or something was to be written and writing failed
abbrev pub VerdictWrote : Ending → Ending → Type 0 → Received → Received → Type 0
VerdictWrote found answer kept output output_now =
    ((answer ≡ found) × Appends output.taken output_now.taken (check_verdict found)
    × (check_verdict found ≡ [] → kept) × (output_now.faults ≡ output.faults))
    ⊎ ((answer ≡ endings.WritingFailed) × TakesPrefix output.taken output_now.taken (check_verdict found)
    × Rose output.faults output_now.faults × (check_verdict found ≢ []))
