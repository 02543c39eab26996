use Rattle.trace_laws.proofs.All.{hold}
use Rattle.trace_laws.proofs.laws.laws_hold.Goals as goal

pub returns : goal.returns
returns c = hold c.args.settings
