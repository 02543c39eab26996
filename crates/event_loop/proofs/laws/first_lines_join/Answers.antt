use Rattle.event_loop.proofs.Joins.{join}
use Rattle.event_loop.proofs.laws.first_lines_join.Goals as goal

pub returns : goal.returns
returns c = join
