use Rattle.game_record.proofs.States.{state-law}
use Rattle.game_record.proofs.laws.states_are_lawful.Goals as goal

pub returns : goal.returns
returns c = state-law
