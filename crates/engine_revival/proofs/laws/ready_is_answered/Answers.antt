use Rattle.engine_revival.proofs.Ready.{ready_is_answered as answered}
use Rattle.engine_revival.proofs.laws.ready_is_answered.Goals as goal

pub returns : goal.returns
returns c = answered
