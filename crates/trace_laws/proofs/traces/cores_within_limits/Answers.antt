use Rattle.trace_laws.proofs.Reached.{within_limits}
use Rattle.trace_laws.proofs.traces.cores_within_limits.Goals as goal

pub returns : goal.returns
returns c = record { limits = within_limits c.args.settings }
