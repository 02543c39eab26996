use Rattle.std.proofs.Common.{◌∙◌, ap, sym, subst}
use Rattle.cecp_driver.specs.Driver.{TurnCanBeWritten, driver_after_turn}
use Rattle.cecp_driver.proofs.driver.DriverParts.act.Goals as goal

pub take-requires : goal.take-requires
take-requires c = subst (TurnCanBeWritten c.args.self.now) (sym c.step-turn.ensures) c.requires

pub returns : goal.returns
returns c = c.take.ensures ∙ ap (driver_after_turn c.args.self.now) c.step-turn.ensures
