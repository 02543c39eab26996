use Rattle.trace_laws.proofs.Dialogues.{stop_once}
use Rattle.trace_laws.proofs.Shown.{show_once}
use Rattle.trace_laws.proofs.searches.searches_end_once.Goals as goal

pub returns : goal.returns
returns c = record { stops = stop_once c.args.settings; shown = show_once c.args.settings }
