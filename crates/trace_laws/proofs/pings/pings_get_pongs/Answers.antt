use Rattle.trace_laws.proofs.Pongs.{pings_have_pongs, pongs_wait, none_is_held}
use Rattle.trace_laws.proofs.pings.pings_get_pongs.Goals as goal

pub returns : goal.returns
returns c = record { pongs = pings_have_pongs c.args.settings; wait = pongs_wait c.args.settings; held = none_is_held c.args.settings }
