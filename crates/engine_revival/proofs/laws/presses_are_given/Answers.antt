use Rattle.engine_revival.proofs.Presses.{presses_are_given}
use Rattle.engine_revival.proofs.laws.presses_are_given.Goals as goal

pub returns : goal.returns
returns c = presses_are_given
