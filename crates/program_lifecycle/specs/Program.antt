-- The behaviour of a program over a host, and the meaning of its status.
use Rattle.std.specs.Prelude.{◌≡◌, ◌⊎◌, ℕ, List}
use Rattle.std.specs.Io.KnownBytes.{Appends}
use Rattle.line_io.specs.Causes.{Rose}
use Rattle.line_io.specs.Source.{Received, TakesPrefix}
use Rattle.program_lifecycle.specs.declared.failures.Failures.{Failures}
use Rattle.program_lifecycle.specs.declared.ending.ProgramEnding.{ProgramEnding}
use Rattle.program_lifecycle.specs.declared.ending.ProgramEnding.TheVariants as endings
use Rattle.program_lifecycle.specs.Endings.{first_failure, program_status, program_diagnostic}
use Rattle.program_lifecycle.specs.Outside.{Outside, AreReported, HaveNotRisen, AreAsBefore}

-- Nothing was done: the arguments fit no command, or there was no memory for them.
pub record DoesNothing (before after : Outside) (ending : ProgramEnding) : Type 0 where
  pub same : after ≡ before
  pub why : (ending ≡ endings.Usage) ⊎ (ending ≡ endings.NoMemory)

-- A run was made that left this, whatever its failures; each failure is counted, and the
-- first one is the ending.
pub record RunEnds (Left : Failures → Type 0) (before after : Outside)
    (ending : ProgramEnding) : Type 0 where
  pub failures : Failures
  pub first : ending ≡ first_failure failures
  pub reported : AreReported before after failures
  pub left : Left failures

-- The end of a program, of whose arguments it is said whether they are taken: it is `Usage` only if they
-- are not, then nothing is done, and else a run is made that leaves what the arguments ask for.
pub record ProgramEnds (Taken : Type 0) (Left : Failures → Type 0) (before after : Outside)
    (ending : ProgramEnding) : Type 0 where
  pub usage : ending ≡ endings.Usage → Taken → ⊥
  pub refused : (Taken → ⊥) → (ending ≡ endings.Usage) ⊎ (ending ≡ endings.NoMemory)
  pub did : DoesNothing before after ending ⊎ RunEnds Left before after ending

-- the text was written, or a prefix of it, if a write failed
abbrev pub IsReportedTo : Received → Received → List ℕ → Type 0
IsReportedTo before after text =
    Appends before.taken after.taken text
    ⊎ (TakesPrefix before.taken after.taken text × Rose before.faults after.faults)

-- the program's status is that of how it ended, and the diagnostic reports it
pub record StatusIsReported (program : List ℕ) (Taken : Type 0) (Left : Failures → Type 0)
    (before after : Outside) (diag diag' : Received) (code : ℕ) : Type 0 where
  pub ending : ProgramEnding
  pub ends : ProgramEnds Taken Left before after ending
  pub code_is : code ≡ program_status ending
  pub diagnosed : IsReportedTo diag diag' (program_diagnostic program ending)

-- the meaning of each status
pub record StatusSays (Taken : Type 0) (before after : Outside) (code : ℕ) : Type 0 where
  pub done : code ≡ 0 → AreAsBefore before after
  pub usage : code ≡ 2 → Taken → ⊥
  pub refused : (Taken → ⊥) → (code ≡ 2) ⊎ (code ≡ 3)
  pub reading : code ≡ 4 → Rose before.input.faults after.input.faults
  pub writing : code ≡ 5 → Rose before.output.faults after.output.faults
  pub engine_reading : code ≡ 6 → Rose before.faults.reads after.faults.reads
  pub engine_writing : code ≡ 7 → Rose before.faults.writes after.faults.writes
  pub engine_start : code ≡ 8 → Rose before.faults.starts after.faults.starts
  pub log : code ≡ 9 → Rose before.faults.logs after.faults.logs
  pub engine_wait : code ≡ 10 → Rose before.faults.waits after.faults.waits
  -- words that are taken, and no failure
  pub complete : Taken → HaveNotRisen before after → (code ≡ 0) ⊎ (code ≡ 3)
