use Rattle.std.proofs.Common.{refl}
use Rattle.cecp_driver.proofs.driver.Driver.ended.Goals as goal

pub returns : goal.returns
returns c = ((refl, λ _. tt, (c.take_end.ensures, c.lines.ensures.gives)), record { ends = tt; fits = c.lines.ensures.fits })
