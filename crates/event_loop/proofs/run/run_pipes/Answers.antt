use Rattle.event_loop.proofs.Runs.{ran}
use Rattle.event_loop.proofs.run.run_pipes.Goals as goal

pub returns-clause-ran : goal.returns-clause-ran
returns-clause-ran g c =
    ran _ _ _ _ _ _ _ _ _ _ c.requires.first c.run_beside-end.ensures.looped c.finish.ensures.iface c.finish.ensures.engine c.run_beside-end.ensures.iface c.run_beside-end.ensures.engine
