use Rattle.search_epochs.proofs.Serving.{current_serves, move_is_owed}
use Rattle.search_epochs.proofs.laws.served_call.Goals as goal

pub returns-clause-serves : goal.returns-clause-serves
returns-clause-serves c = current_serves

pub returns-clause-owed : goal.returns-clause-owed
returns-clause-owed c = move_is_owed
