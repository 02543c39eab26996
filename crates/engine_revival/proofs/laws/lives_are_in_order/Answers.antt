use Rattle.engine_revival.proofs.Agrees.{in_order}
use Rattle.engine_revival.proofs.laws.lives_are_in_order.Goals as goal

pub returns : goal.returns
returns c = in_order
