use Rattle.bridge_runner.proofs.Plays.{steps}
use Rattle.bridge_runner.proofs.mediating.SessionMediator.step.Goals as goal

pub returns : goal.returns
returns c = steps _ _ _ _ _ c.advance.ensures
