use Rattle.trace_laws.proofs.Dialogues.{dialogues}
use Rattle.trace_laws.proofs.Steadily.{steadily}
use Rattle.trace_laws.proofs.searches.traces_are_dialogues.Goals as goal

pub returns : goal.returns
returns c = record { dialogues = dialogues c.args.settings; steady = steadily c.args.settings }
