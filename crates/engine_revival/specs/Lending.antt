-- A revival once the lines of a call that it lent have ended.
use Rattle.std.specs.Borrow.{MutBor, Fml}
use Rattle.std.specs.Io.BufRead.{Rests}
use Rattle.engine_revival.specs.Calls.{RevivalCall, LifeCallGives}
use Rattle.engine_revival.specs.declared.revival.Revival.{Revival}
use Rattle.engine_revival.specs.declared.revival.RevivalStep.{RevivalStep}
use Rattle.engine_revival.specs.contracts.revival.Revival.{the_row}

abbrev pub CallGives : MutBor Revival → RevivalCall → RevivalStep → Fml
CallGives revival call r =
    Rests the_row revival (λ last. LifeCallGives revival.now.state call last.state r.up.now r.child.now)
