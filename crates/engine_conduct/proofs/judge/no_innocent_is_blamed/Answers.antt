use Rattle.engine_conduct.proofs.Innocence.{no_innocent_is_blamed}
use Rattle.engine_conduct.proofs.judge.no_innocent_is_blamed.Goals as goal

pub returns : goal.returns
returns c = no_innocent_is_blamed
