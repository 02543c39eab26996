use Rattle.adapter_core.proofs.Alone.{apart_from_engine, desk_is_alone, replies_are_alone}
use Rattle.adapter_core.proofs.laws.interface_alone.Goals as goal

pub returns : goal.returns
returns c = record { desk = desk_is_alone c.args.settings; apart = apart_from_engine c.args.settings; replies = replies_are_alone c.args.settings }
