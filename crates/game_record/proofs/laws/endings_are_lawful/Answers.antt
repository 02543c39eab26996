use Rattle.game_record.proofs.States.{ending-law}
use Rattle.game_record.proofs.laws.endings_are_lawful.Goals as goal

pub returns : goal.returns
returns c = ending-law
