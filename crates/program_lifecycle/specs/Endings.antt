-- The end of a program, and its report of it.
use Rattle.std.specs.Prelude.{ℕ, List, [], ◌∷◌, ◌++◌, codes, if◌then◌else◌}
use Rattle.program_lifecycle.specs.declared.failures.Failures.{Failures}
use Rattle.program_lifecycle.specs.declared.ending.ProgramEnding.{ProgramEnding}
use Rattle.program_lifecycle.specs.declared.ending.ProgramEnding.TheVariants as endings
use Rattle.line_io.specs.Lines.{line_feed}
use Rattle.program_command_line.specs.declared.arguments.refusal.ArgumentsRefusal.{ArgumentsRefusal}
use Rattle.program_command_line.specs.declared.arguments.refusal.ArgumentsRefusal.TheVariants as refusals

-- the first of the failures
abbrev pub first_failure : Failures → ProgramEnding
first_failure f =
    if f.memory then endings.NoMemory
    else (if f.iface_read then endings.ReadingFailed
    else (if f.iface_write then endings.WritingFailed
    else (if f.engine_read then endings.EngineReadingFailed
    else (if f.engine_write then endings.EngineWritingFailed
    else (if f.engine_start then endings.EngineStartFailed
    else (if f.log then endings.LogFailed
    else (if f.engine_wait then endings.EngineWaitFailed else endings.Done)))))))

-- the ending of arguments that are refused
abbrev pub ending_for : ArgumentsRefusal → ProgramEnding
ending_for refusals.Usage = endings.Usage
ending_for refusals.NoMemory = endings.NoMemory

abbrev pub program_status : ProgramEnding → ℕ
program_status endings.Done = 0
program_status endings.Usage = 2
program_status endings.NoMemory = 3
program_status endings.ReadingFailed = 4
program_status endings.WritingFailed = 5
program_status endings.EngineReadingFailed = 6
program_status endings.EngineWritingFailed = 7
program_status endings.EngineStartFailed = 8
program_status endings.LogFailed = 9
program_status endings.EngineWaitFailed = 10

-- after the name of the program
abbrev pub behind_name : List ℕ → List ℕ
behind_name text = codes ": " ++ text ++ line_feed ∷ []

abbrev pub ending_text : ProgramEnding → List ℕ
ending_text endings.Done = []
ending_text endings.Usage = behind_name (codes "usage")
ending_text endings.NoMemory = behind_name (codes "no memory")
ending_text endings.ReadingFailed = behind_name (codes "reading failed")
ending_text endings.WritingFailed = behind_name (codes "writing failed")
ending_text endings.EngineReadingFailed = behind_name (codes "engine reading failed")
ending_text endings.EngineWritingFailed = behind_name (codes "engine writing failed")
ending_text endings.EngineStartFailed = behind_name (codes "engine start failed")
ending_text endings.LogFailed = behind_name (codes "log failed")
ending_text endings.EngineWaitFailed = behind_name (codes "engine wait failed")

-- one line that begins with the program's name, or nothing
abbrev pub program_diagnostic : List ℕ → ProgramEnding → List ℕ
program_diagnostic program endings.Done = []
program_diagnostic program ending = program ++ ending_text ending
