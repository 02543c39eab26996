-- The work of a driver on the lines of a script.
use Rattle.std.specs.Prelude.{◌≡◌, ℕ, ◌+◌, List, [], ◌∷◌, ◌++◌, length}
use Rattle.std.specs.Prelude.{true, false, Option, Some, None, is_some}
use Rattle.std.specs.List.{flat_map, AllByRecursion}
use Rattle.line_io.specs.Event.{Event}
use Rattle.line_io.specs.Lines.{Piece, Whole, TooLong}
use Rattle.line_io.specs.Out.{Text, with}
use Rattle.script_lines.specs.Marks.{Mark, Happens, mark_spelled}
use Rattle.replay_command_base.specs.declared.ending.Ending.{Ending}
use Rattle.replay_command_base.specs.declared.ending.Ending.TheVariants as endings
use Rattle.replay_command_base.specs.Putting.{Putting}
use Rattle.cecp_driver.specs.declared.driver.DriverParts.{DriverParts}
use Rattle.cecp_driver.specs.Driver.{opening_driver}
use Rattle.cecp_driver.specs.Script.{DriverTakes, given_marks, last_of, may_come}
use Rattle.cecp_driver.specs.Runs.{IsScriptOfDrive}

-- the mark of a line
abbrev pub mark_to_drive : Piece → Option Mark
mark_to_drive (Whole line) = mark_spelled line
mark_to_drive TooLong = None

-- The marks of written lines are ignored.
abbrev pub event_of_line : Option Mark → List Event
event_of_line (Some (Happens event)) = event ∷ []
event_of_line mark = []

-- the events of which these lines are the marks
abbrev pub driven_events : List Piece → List Event
driven_events lines = flat_map (λ line. event_of_line (mark_to_drive line)) lines

-- Each of these lines is a mark, each event may come, and this is the script of
-- a driver that takes them.
pub record IsDriven (lines : List Piece) (text : List ℕ) : Type 0 where
  pub marked : AllByRecursion (λ line. is_some (mark_to_drive line) ≡ true) lines
  pub script : IsScriptOfDrive (driven_events lines) text

-- the driver after these lines
abbrev pub driver_now : {lines : List Piece} {text : List ℕ} → IsDriven lines text → DriverParts
driver_now driven = last_of opening_driver driven.script.after

-- why the line with this number is a fault: it has no mark, or its event may not come
abbrev pub IsWrong : DriverParts → Piece → ℕ → Ending → Type 0
IsWrong v line number (endings.NoMark n) = (n ≡ number) × (mark_to_drive line ≡ None)
IsWrong v line number (endings.MayNotCome n) =
    (n ≡ number)
    × ((event : Event) × ((mark_to_drive line ≡ Some (Happens event)) × (may_come v event ≡ false)))
IsWrong v line number ending = ⊥

-- The last of these lines is a fault, and those before it are none, of which this is the script.
pub record IsFirstUndriven (lines : List Piece) (fault : Ending) (text : List ℕ) : Type 0 where
  pub before : List Piece
  pub line : Piece
  pub lines_are : lines ≡ before ++ line ∷ []
  pub driven : IsDriven before text
  pub wrong : IsWrong (driver_now driven) line (length before + 1) fault

-- AS A LINE FILTER

-- The event was taken and its marks were put, or it may not come and nothing was put.
abbrev pub Tries : ℕ → Event → Option Ending → DriverParts → DriverParts → Text → Text → Type 0
Tries number event None v v' held held' =
    DriverTakes event v v' × (held' ≡ with held (given_marks event v'))
Tries number event (Some ending) v v' held held' =
    (ending ≡ endings.MayNotCome number) × ((may_come v event ≡ false) × (held' ≡ held))

-- the driver is so after these lines
pub record DriverAfterLines (lines : List Piece) (v : DriverParts) (text : List ℕ) : Type 0 where
  pub driven : IsDriven lines text
  pub now : v ≡ driver_now driven

-- why no line is taken after these
abbrev pub DriveEndsWith : List Piece → Ending → List ℕ → Type 0
DriveEndsWith lines (endings.NoMark n) text = IsFirstUndriven lines (endings.NoMark n) text
DriveEndsWith lines (endings.MayNotCome n) text = IsFirstUndriven lines (endings.MayNotCome n) text
DriveEndsWith lines (endings.OutOfStep n) text = ⊥
DriveEndsWith lines (endings.Differs n) text = ⊥
DriveEndsWith lines (endings.Unlawful n) text = ⊥
DriveEndsWith lines ending text = IsDriven lines text

-- the text of a driver that was made, for the lines of a script
abbrev pub drive_filter_meaning : Putting DriverParts
drive_filter_meaning = record {
  put = λ v0 lines v text. v0 ≡ opening_driver → DriverAfterLines lines v text;
  says = λ v0 lines ending text. v0 ≡ opening_driver → DriveEndsWith lines ending text;
  may = λ v. Unit {0};
}
