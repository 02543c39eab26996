use Rattle.bridge_runner.proofs.Plays.{opens, header_put}
use Rattle.bridge_runner.proofs.mediating.SessionMediator.begin.Goals as goal

pub returns : goal.returns
returns c = opens _ _ _ _ _ c.requires.fresh.0 c.requires.fresh.1 (header_put _ _ _ _ _ _ c.settings.ensures c.write_header.ensures.written c.put.ensures) c.advance.ensures
