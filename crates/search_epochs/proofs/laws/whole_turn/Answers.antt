use Rattle.search_epochs.proofs.Same.{only_orders, same}
use Rattle.search_epochs.proofs.Whole.{settled_mid, keeps_mid}
use Rattle.search_epochs.proofs.laws.whole_turn.Goals as goal

pub returns-clause-settled : goal.returns-clause-settled
returns-clause-settled c = settled_mid

pub returns-clause-kept : goal.returns-clause-kept
returns-clause-kept c = keeps_mid

pub returns-clause-unique : goal.returns-clause-unique
returns-clause-unique c = same

pub returns-clause-only : goal.returns-clause-only
returns-clause-only c = only_orders
