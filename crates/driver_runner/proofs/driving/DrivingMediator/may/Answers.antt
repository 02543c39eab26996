use Rattle.driver_runner.proofs.Drives.{allows}
use Rattle.driver_runner.proofs.driving.DrivingMediator.may.Goals as goal

pub returns-clause-allows : goal.returns-clause-allows
returns-clause-allows c = allows _ _
