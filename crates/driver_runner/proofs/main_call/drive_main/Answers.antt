use Rattle.program_lifecycle.proofs.ByArguments.{does_by_words}
use Rattle.driver_runner.specs.Driven.{DriverLeaves}
use Rattle.driver_runner.specs.Recorded.{DriverRunIsWhole}
use Rattle.driver_runner.specs.Program.{program}
use Rattle.driver_runner.proofs.main_call.drive_main.Goals as goal

pub returns : goal.returns
returns g c =
    does_by_words program DriverLeaves DriverRunIsWhole _ _ _ _ _ _ _ _ _ c.finish.ensures.status c.finish.ensures.reported c.end_of-ending.ensures.ends c.end_of-ending.ensures.asked
    (λ f left. left.whole) (λ f left e. left.nothing (left.unstarted e))
