use Rattle.clock_map.proofs.Lengths.{few_bytes}
use Rattle.clock_map.proofs.Spelled.{spelled}
use Rattle.clock_map.proofs.laws.searches_are_short.Goals as goal

pub returns-clause-spelled : goal.returns-clause-spelled
returns-clause-spelled c = spelled

pub returns-clause-short : goal.returns-clause-short
returns-clause-short c = few_bytes
