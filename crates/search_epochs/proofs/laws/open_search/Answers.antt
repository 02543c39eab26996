use Rattle.search_epochs.proofs.Sound.{live, stopped_for_move, current_unspent}
use Rattle.search_epochs.proofs.Stops.{stops_once}
use Rattle.search_epochs.proofs.laws.open_search.Goals as goal

pub returns-clause-live : goal.returns-clause-live
returns-clause-live c = live

pub returns-clause-stopped : goal.returns-clause-stopped
returns-clause-stopped c = stopped_for_move

pub returns-clause-unspent : goal.returns-clause-unspent
returns-clause-unspent c = current_unspent

pub returns-clause-once : goal.returns-clause-once
returns-clause-once c = stops_once
