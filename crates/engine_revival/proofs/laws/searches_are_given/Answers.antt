use Rattle.engine_revival.proofs.Values.{given_searches}
use Rattle.engine_revival.proofs.laws.searches_are_given.Goals as goal

pub returns : goal.returns
returns c = given_searches
