use Rattle.trace_laws.proofs.Fences.{searches_fenced, stopped_unfenced}
use Rattle.trace_laws.proofs.searches.searches_are_fenced.Goals as goal

pub returns : goal.returns
returns c = record { fenced = searches_fenced c.args.settings; stopped = stopped_unfenced c.args.settings }
