use Rattle.search_epochs.proofs.Fences.{go_is_fenced, search_is_fenced}
use Rattle.search_epochs.proofs.laws.fenced_searches.Goals as goal

pub returns : goal.returns
returns c = record { begun = go_is_fenced; searching = search_is_fenced }
