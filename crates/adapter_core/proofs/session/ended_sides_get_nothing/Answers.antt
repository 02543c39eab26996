use Rattle.adapter_core.proofs.Ended.{silent_to_iface, silent_to_engine}
use Rattle.adapter_core.proofs.session.ended_sides_get_nothing.Goals as goal

pub returns : goal.returns
returns c = record { iface = silent_to_iface c.args.settings; engine = silent_to_engine c.args.settings }
