use Rattle.replay_commands_on_core.proofs.check.take_first.Goals as goal

pub open_numbered-requires-clause-proper : goal.open_numbered-requires-clause-proper
open_numbered-requires-clause-proper c = ((c.read_header.ensures.exact c.in-Some.settings).0 c.in-Some.is).proper
