use Rattle.clock_map.proofs.Messages.{base_reported, time_reported, other_time_reported}
use Rattle.clock_map.proofs.clocks.Clocks.set.Goals as goal

pub shown-base-requires : goal.shown-base-requires
shown-base-requires c = base_reported c.args.msg.now c.in-Level.mps c.in-Level.base_ms c.in-Level.inc_ms c.in-Level.is c.requires

pub of_centis-self-requires : goal.of_centis-self-requires
of_centis-self-requires c = time_reported c.args.msg.now c.in-Time.n c.in-Time.is c.requires

pub of_centis-self-requires-in-Otim : goal.of_centis-self-requires-in-Otim
of_centis-self-requires-in-Otim c = other_time_reported c.args.msg.now c.in-Otim.n c.in-Otim.is c.requires
