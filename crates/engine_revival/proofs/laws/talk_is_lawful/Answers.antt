use Rattle.engine_revival.proofs.Talks.{talk_is_lawful as lawful}
use Rattle.engine_revival.proofs.laws.talk_is_lawful.Goals as goal

pub returns : goal.returns
returns c = lawful
