use Rattle.driver_state_machine.proofs.Busy.{open_is_busy}
use Rattle.driver_state_machine.proofs.laws.open_searches_are_busy.Goals as goal

pub returns : goal.returns
returns c = open_is_busy
