-- The invariant of the whole.
use Rattle.std.specs.Prelude.{◌≡◌, ℕ}
use Rattle.line_io.specs.Out.{empty}
use Rattle.engine_revival.specs.declared.revival.RevivalParts.{RevivalParts}
use Rattle.engine_revival.specs.declared.revival.TheConstants.{UP_ROOM, CHILD_ROOM}
use Rattle.engine_revival.specs.Marks.{HaveRoom}
use Rattle.engine_revival.specs.Rooms.{IsRoomy}
use Rattle.engine_revival.specs.Steps as steps

-- the state, and the lines of the last call
abbrev pub View : Type 0
View = RevivalParts

abbrev pub opening_view : ℕ → View
opening_view lives = record { state = steps.opening_revival lives; up = empty UP_ROOM; child = empty CHILD_ROOM }

-- with no lines
abbrev pub view_without_lines : View → View
view_without_lines v = record { state = v.state; up = empty v.up.room; child = empty v.child.room }

pub record RevivalInvariant (v : View) : Type 0 where
  pub roomy : IsRoomy v.state
  pub up : v.up.room ≡ UP_ROOM
  pub child : v.child.room ≡ CHILD_ROOM
  pub marks : HaveRoom v.up.text v.child.text
