use Rattle.search_epochs.proofs.Places.{idle_gets_them, search_gets_stop, ponder_gets_hit, gone_gets_nothing, go_follows, quit_is_last}
use Rattle.search_epochs.proofs.laws.order_places.Goals as goal

pub returns-clause-idle : goal.returns-clause-idle
returns-clause-idle c = idle_gets_them

pub returns-clause-stop : goal.returns-clause-stop
returns-clause-stop c = search_gets_stop

pub returns-clause-hit : goal.returns-clause-hit
returns-clause-hit c = ponder_gets_hit

pub returns-clause-gone : goal.returns-clause-gone
returns-clause-gone c = gone_gets_nothing

pub returns-clause-paired : goal.returns-clause-paired
returns-clause-paired c = go_follows

pub returns-clause-quit : goal.returns-clause-quit
returns-clause-quit c = quit_is_last
