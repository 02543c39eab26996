use Rattle.driver_state_machine.proofs.Silent.{moves_are_ignored, no_move_has_cause}
use Rattle.driver_state_machine.proofs.laws.when_nothing_is_given.Goals as goal

pub returns-clause-ignored : goal.returns-clause-ignored
returns-clause-ignored c = moves_are_ignored

pub returns-clause-no_move : goal.returns-clause-no_move
returns-clause-no_move c = no_move_has_cause
