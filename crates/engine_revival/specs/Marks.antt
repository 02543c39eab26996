-- The number of marks for the lines of a call.
use Rattle.std.specs.Prelude.{◌≡◌, ℕ, ◌≤◌, List, length, false}
use Rattle.std.specs.List.{AllByRecursion}
use Rattle.line_io.specs.Event.{has_feed}
use Rattle.script_lines.specs.StepText.{written_marks}
use Rattle.engine_revival.specs.Orders.{RevivalOrder, revival_order_text}
use Rattle.engine_revival.specs.declared.revival.TheConstants.{MARKS_ROOM}

abbrev pub OrderIsOneLine : RevivalOrder → Type 0
OrderIsOneLine order = has_feed (revival_order_text order) ≡ false

-- each is one line, and they are no more than this
pub record OrdersAreLines (list : List RevivalOrder) (most : ℕ) : Type 0 where
  pub one_line : AllByRecursion OrderIsOneLine list
  pub few : length list ≤ most

-- The marks of the lines up and of those to the engine have room.
abbrev pub HaveRoom : List ℕ → List ℕ → Type 0
HaveRoom up child = length (written_marks up child) ≤ MARKS_ROOM
