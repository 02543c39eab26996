-- The driver once the lines that it lent have ended.
use Rattle.std.specs.Prelude.{ℕ, ◌≡◌, ◌≤◌, List, length}
use Rattle.std.specs.Borrow.{MutBor, Fml}
use Rattle.std.specs.Io.BufRead.{Rests}
use Rattle.cecp_driver.specs.declared.driver.Driver.{Driver}
use Rattle.cecp_driver.specs.declared.driver.DriverParts.{DriverParts}
use Rattle.cecp_driver.specs.declared.driver.DriverStep.{DriverStep}
use Rattle.cecp_driver.specs.declared.driver.TheConstants.{UP_ROOM, DOWN_ROOM}
use Rattle.cecp_driver.specs.contracts.driver.Driver.{the_row}
use Rattle.cecp_driver.specs.Driver.{Orders, DriverHears, EngineEndGives}

-- these lines were given
abbrev pub GivesLines : DriverParts → DriverStep → Type 0
GivesLines v r = (r.up.now ≡ v.up.text) × (r.child.now ≡ v.down.text)

-- how many bytes they have at most
abbrev pub FitsRoom : DriverStep → Type 0
FitsRoom r = (length r.up.now ≤ UP_ROOM) × (length r.child.now ≤ DOWN_ROOM)

abbrev pub OrdersOn : MutBor Driver → List ℕ → DriverStep → Fml
OrdersOn v line r = Rests the_row v (λ last. Orders line v.now last × GivesLines last r)

abbrev pub HearsOn : MutBor Driver → List ℕ → DriverStep → Fml
HearsOn v line r = Rests the_row v (λ last. DriverHears line v.now last × GivesLines last r)

abbrev pub EndsOn : MutBor Driver → DriverStep → Fml
EndsOn v r = Rests the_row v (λ last. EngineEndGives v.now last × GivesLines last r)
