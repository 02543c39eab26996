use Rattle.trace_laws.proofs.Heard as heard
use Rattle.trace_laws.proofs.wire.engine_on_wire.Goals as goal

pub returns : goal.returns
returns c = record { engine = heard.engine_on_wire c.args.settings; ends = heard.ends_on_wire c.args.settings }
