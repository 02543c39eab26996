use Rattle.trace_laws.proofs.Places.{idle_gets_them, search_gets_stop, ponder_gets_hit, gone_gets_nothing, go_follows_position}
use Rattle.trace_laws.proofs.wire.order_places.Goals as goal

pub returns : goal.returns
returns c =
    let o = c.args.settings in
    record { idle = idle_gets_them o; stop = search_gets_stop o; hit = ponder_gets_hit o; gone = gone_gets_nothing o; paired = go_follows_position o }
