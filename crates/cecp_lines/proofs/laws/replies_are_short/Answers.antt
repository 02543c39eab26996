use Rattle.cecp_lines.proofs.Lengths.{reported_short}
use Rattle.cecp_lines.proofs.laws.replies_are_short.Goals as goal

pub returns : goal.returns
returns c = reported_short
