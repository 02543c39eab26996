use Rattle.reviver_runner.proofs.Refused.{no_empty_log, no_longer_log}
use Rattle.reviver_runner.proofs.laws.logs_are_whole.Goals as goal

pub returns-clause-not_empty : goal.returns-clause-not_empty
returns-clause-not_empty c = no_empty_log

pub returns-clause-not_longer : goal.returns-clause-not_longer
returns-clause-not_longer c = no_longer_log
