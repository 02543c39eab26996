use Rattle.cecp_driver.proofs.EngineRuns.{on_the_ordered}
use Rattle.cecp_driver.proofs.laws.searches_are_on_the_ordered_game.Goals as goal

pub returns : goal.returns
returns c = on_the_ordered
