use Rattle.trace_laws.proofs.Reached.{exist, may_come}
use Rattle.trace_laws.proofs.traces.traces_exist.Goals as goal

pub returns : goal.returns
returns c = record { exist = exist c.args.settings; events = may_come c.args.settings }
