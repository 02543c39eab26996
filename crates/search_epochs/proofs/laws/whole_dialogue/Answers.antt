use Rattle.search_epochs.proofs.Histories.{lawful, chosen, view_kept, unique}
use Rattle.search_epochs.proofs.Within.{within}
use Rattle.search_epochs.proofs.laws.whole_dialogue.Goals as goal

pub returns-clause-lawful : goal.returns-clause-lawful
returns-clause-lawful c = lawful

pub returns-clause-chosen : goal.returns-clause-chosen
returns-clause-chosen c = chosen

pub returns-clause-kept : goal.returns-clause-kept
returns-clause-kept c = view_kept

pub returns-clause-unique : goal.returns-clause-unique
returns-clause-unique c = unique

pub returns-clause-within : goal.returns-clause-within
returns-clause-within c = within
