use Rattle.bridge_runner.proofs.Plays.{allows}
use Rattle.bridge_runner.proofs.mediating.SessionMediator.may.Goals as goal

pub returns-clause-allows : goal.returns-clause-allows
returns-clause-allows c = allows _ _
