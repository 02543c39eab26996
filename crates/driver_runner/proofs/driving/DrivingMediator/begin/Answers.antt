use Rattle.std.proofs.Common.{refl}
use Rattle.driver_runner.proofs.Drives.{opens}
use Rattle.driver_runner.proofs.driving.DrivingMediator.begin.Goals as goal

pub returns : goal.returns
returns c = opens _ _ _ _ c.requires.fresh refl refl
