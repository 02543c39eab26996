use Rattle.driver_state_machine.proofs.Counts.{answered_once}
use Rattle.driver_state_machine.proofs.laws.searches_are_answered_once.Goals as goal

pub returns : goal.returns
returns c = answered_once
