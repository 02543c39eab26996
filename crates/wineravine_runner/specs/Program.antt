-- The behaviour of the program, by its arguments.
use Rattle.std.specs.Prelude.{◌≡◌, ◌≢◌, ◌⊎◌, ℕ, Bool, ◌&&◌, not, nat_eq}
use Rattle.std.specs.Prelude.{List, [], ◌∷◌, ◌++◌, filter, take, codes}
use Rattle.std.specs.Io.KnownBytes.{Appends}
use Rattle.clap.specs.Words.{Text, first_of}
use Rattle.line_io.specs.Causes.{Rose}
use Rattle.line_io.specs.Lines.{line_feed}
use Rattle.line_io.specs.Source.{Received, TakesPrefix}
use Rattle.program_lifecycle.specs.Endings.{program_diagnostic}
use Rattle.program_lifecycle.specs.Outside.{Outside}
use Rattle.program_lifecycle.specs.Program.{StatusIsReported, IsReportedTo}
use Rattle.program_lifecycle.specs.declared.ending.ProgramEnding.TheVariants as endings
use Rattle.bridge_runner.specs.Program.{RunsAsAsked}
use Rattle.protocol_tokens.specs.Bytes.{carriage_return}
use Rattle.program_command_line.specs.Arguments.About.{version_line}
use Rattle.bridge_command_line.specs.Values.{argument_or_empty}
use Rattle.bridge_command_line.specs.WineravineArguments.{WineravineArgumentsAreTaken, AskForHelp, AskForVersion, AreWrong}
use Rattle.bridge_command_line.specs.WineravineArguments.{WineravineSettingsAreAsked, first_lines, wineravine_argument_values}
use Rattle.bridge_command_line.specs.declared.help.TheConstants.{HELP}
use Rattle.wineravine_runner.specs.declared.reporting.TheConstants.{MOST_SHOWN}

-- the name of the program, which stands in a diagnostic
abbrev pub program : List ℕ
program = codes "wineravine"

-- WHAT A PERSON READS

abbrev pub version_text : List ℕ
version_text = version_line program

-- the line by which an interface shows this text to its user
abbrev pub user_error : List ℕ → List ℕ
user_error text = codes "tellusererror " ++ text ++ line_feed ∷ []

abbrev pub wrong_arguments : List ℕ
wrong_arguments = user_error (codes "wineravine: wrong arguments")

-- neither a line feed nor a carriage return
abbrev pub is_shown : ℕ → Bool
is_shown b = not (nat_eq b line_feed) && not (nat_eq b carriage_return)

-- the part of a name that is shown: at most so many bytes, all in one line
abbrev pub argument_name_shown : Text → Text
argument_name_shown name = take MOST_SHOWN (filter is_shown name)

abbrev pub not_started : Text → List ℕ
not_started name = user_error (codes "Engine not started: " ++ argument_name_shown name)

-- the engine that the arguments name
abbrev pub engine_named : List Text → Text
engine_named arguments = argument_or_empty (first_of (codes "ENGINE") (wineravine_argument_values arguments))

-- WHAT THE PROGRAM DOES

-- There was no memory for the arguments: nothing is done, and the diagnostic says so.
pub record LacksMemory (before after : Outside) (diag diag' : Received) (code : ℕ) : Type 0 where
  pub nothing : after ≡ before
  pub code_is : code ≡ 3
  pub reported : IsReportedTo diag diag' (program_diagnostic program endings.NoMemory)

-- The text was written, and nothing to standard error.
pub record TextIsShown (text : List ℕ) (before after diag diag' : Received) (code : ℕ) : Type 0 where
  pub written : Appends before.taken after.taken text
  pub code_is : code ≡ 0
  pub same : after.faults ≡ before.faults
  pub quiet : diag' ≡ diag

-- A prefix of it was written, since a write failed.
pub record IsCut (text : List ℕ) (before after diag diag' : Received) (code : ℕ) : Type 0 where
  pub prefix : TakesPrefix before.taken after.taken text
  pub code_is : code ≡ 5
  pub failed : Rose before.faults after.faults
  pub reported : IsReportedTo diag diag' (program_diagnostic program endings.WritingFailed)

-- A text is shown, and no run is made.
pub record ShowsTextOnly (text : List ℕ) (before after : Outside) (diag diag' : Received)
    (code : ℕ) : Type 0 where
  pub only_output : after ≡ record before { output = after.output }
  pub ends : TextIsShown text before.output after.output diag diag' code
      ⊎ IsCut text before.output after.output diag diag' code

-- Arguments that fit nothing are refused: the interface shows that to its user, and a reason
-- stands in the diagnostic.
pub record Refuses (before after : Outside) (diag diag' : Received) (code : ℕ) : Type 0 where
  pub only_output : after ≡ record before { output = after.output }
  pub shown : IsReportedTo before.output after.output wrong_arguments
  pub code_is : code ≡ 2
  pub reason : List ℕ
  pub reported : IsReportedTo diag diag' reason

-- A run is made that left this. If it could not start the engine, the
-- interface shows that to its user.
pub record WineravineRuns (arguments : List Text) (before after : Outside) (diag diag' : Received)
    (code : ℕ) : Type 0 where
  pub left : Outside
  pub answers : StatusIsReported program (WineravineArgumentsAreTaken arguments)
      (RunsAsAsked (WineravineSettingsAreAsked (wineravine_argument_values arguments)) (first_lines (wineravine_argument_values arguments)) before left)
      before left diag diag' code
  pub only_output : after ≡ record left { output = after.output }
  pub unstarted : code ≡ 8 → IsReportedTo left.output after.output (not_started (engine_named arguments))
  pub else_same : code ≢ 8 → after ≡ left

-- the behaviour of the program, case by case
pub record WineravineDoes (arguments : List Text) (before after : Outside) (diag diag' : Received)
    (code : ℕ) : Type 0 where
  pub help : AskForHelp arguments
      → ShowsTextOnly HELP.now before after diag diag' code ⊎ LacksMemory before after diag diag' code
  pub version : AskForVersion arguments
      → ShowsTextOnly version_text before after diag diag' code ⊎ LacksMemory before after diag diag' code
  pub wrong : AreWrong arguments
      → Refuses before after diag diag' code ⊎ LacksMemory before after diag diag' code
  pub run : WineravineArgumentsAreTaken arguments → WineravineRuns arguments before after diag diag' code

-- which case it was
abbrev pub Did : List Text → Outside → Outside → Received → Received → ℕ → Type 0
Did arguments before after diag diag' code =
    (AskForHelp arguments × ShowsTextOnly HELP.now before after diag diag' code)
    ⊎ ((AskForVersion arguments × ShowsTextOnly version_text before after diag diag' code)
    ⊎ ((AreWrong arguments × Refuses before after diag diag' code)
    ⊎ ((WineravineArgumentsAreTaken arguments × WineravineRuns arguments before after diag diag' code)
    ⊎ LacksMemory before after diag diag' code)))

-- the arguments fit a case of the program
abbrev pub ArgumentsFitCase : List Text → Type 0
ArgumentsFitCase arguments = WineravineArgumentsAreTaken arguments ⊎ (AskForHelp arguments ⊎ AskForVersion arguments)
