use Rattle.engine_revival.proofs.Sent.{awaited_is_given, lives_are_asked}
use Rattle.engine_revival.proofs.laws.living_engines_are_heard.Goals as goal

pub returns-clause-given : goal.returns-clause-given
returns-clause-given c = awaited_is_given

pub returns-clause-asked : goal.returns-clause-asked
returns-clause-asked c = lives_are_asked
