use Rattle.std.proofs.Common.{refl}
use Rattle.cecp_driver.proofs.driver.Driver.order.Goals as goal

pub returns : goal.returns
returns c = ((refl, λ _. tt, (c.take_order.ensures, c.lines.ensures.gives)), record { orders = tt; fits = c.lines.ensures.fits })
