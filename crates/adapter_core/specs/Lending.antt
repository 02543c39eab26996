-- The core once the lines of a step that it lent have ended.
use Rattle.std.specs.Borrow.{MutBor, Fml}
use Rattle.std.specs.Io.BufRead.{Rests}
use Rattle.line_io.specs.Event.{Event}
use Rattle.adapter_core.specs.Represents.{Extends}
use Rattle.adapter_core.specs.declared.session.Core.{Core}
use Rattle.adapter_core.specs.declared.session.Step.{Step}
use Rattle.adapter_core.specs.contracts.session.Core.{the_row}

abbrev pub StepsOn : MutBor Core → Event → Step → Fml
StepsOn core e r = Rests the_row core (λ last. Extends core.now last e r.iface.now r.engine.now)
