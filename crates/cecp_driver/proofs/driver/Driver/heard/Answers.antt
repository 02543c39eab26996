use Rattle.std.proofs.Common.{refl}
use Rattle.cecp_driver.proofs.driver.Driver.heard.Goals as goal

pub returns : goal.returns
returns c = ((refl, λ _. tt, (c.take_line.ensures, c.lines.ensures.gives)), record { hears = tt; fits = c.lines.ensures.fits })
