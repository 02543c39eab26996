use Rattle.random_games.proofs.Alike.{drills_alike}
use Rattle.random_games.proofs.laws.drills_are_one.Goals as goal

pub returns : goal.returns
returns c = drills_alike
