use Rattle.clock_map.proofs.Messages.{stay_short}
use Rattle.clock_map.proofs.laws.clocks_stay_short.Goals as goal

pub returns-clause-lines : goal.returns-clause-lines
returns-clause-lines c = stay_short
