use Rattle.tap_runner.proofs.Runs.{ran}
use Rattle.tap_runner.proofs.run.run_tap.Goals as goal

pub returns-clause-ran : goal.returns-clause-ran
returns-clause-ran g c =
    ran _ _ _ _ _ _ _ _ _ _ _ _ _ _ _ _ c.run_beside-end.ensures.logged c.finish.ensures.iface c.finish.ensures.engine c.run_beside-end.ensures.from_bridge c.run_beside-end.ensures.from_engine
