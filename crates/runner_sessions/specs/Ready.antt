-- The parts that a run over both pipes needs.
use Rattle.std.specs.Prelude.{◌≤◌}
use Rattle.line_io.specs.declared.out.Out.{Out}
use Rattle.event_loop.specs.declared.mediator.TheConstants.{TURN_ROOM}
use Rattle.driver_runner.specs.declared.driving.Driving.{Driving}
use Rattle.driver_runner.specs.Drives.{driving_meaning}

-- nothing was written yet, and what is put into the log for any turn has room
pub record IsLogReady (driving : Driving) (text : Out) : Type 0 where
  pub fresh : driving_meaning.fresh driving
  pub room : TURN_ROOM ≤ text.room
