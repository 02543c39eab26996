use Rattle.trace_laws.proofs.Steadily as steadily
use Rattle.trace_laws.proofs.searches.searches_serve.Goals as goal

pub returns : goal.returns
returns c = record { serve = steadily.serve c.args.settings }
