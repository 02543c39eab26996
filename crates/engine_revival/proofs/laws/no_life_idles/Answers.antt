use Rattle.engine_revival.proofs.Agrees.{no_idle}
use Rattle.engine_revival.proofs.laws.no_life_idles.Goals as goal

pub returns : goal.returns
returns c = no_idle
