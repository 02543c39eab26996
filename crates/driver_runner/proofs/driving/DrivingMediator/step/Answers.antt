use Rattle.driver_runner.proofs.Drives.{steps}
use Rattle.driver_runner.proofs.HeardEvents.{good_line}
use Rattle.driver_runner.proofs.driving.DrivingMediator.step.Goals as goal

pub play-requires-clause-line : goal.play-requires-clause-line
play-requires-clause-line c = good_line _ c.requires.good

pub returns : goal.returns
returns c = steps _ _ _ _ _ c.play.ensures.takes c.play.ensures.put
