use Rattle.option_map.proofs.DeclaredOptions.Lists.{short_list}
use Rattle.option_map.proofs.feature_lists.laws.feature_lists_are_short.Goals as goal

pub returns-clause-short : goal.returns-clause-short
returns-clause-short c = short_list
