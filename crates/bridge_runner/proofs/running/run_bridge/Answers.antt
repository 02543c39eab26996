use Rattle.bridge_runner.proofs.running.run_bridge.Goals as goal

pub returns-clause-runs : goal.returns-clause-runs
returns-clause-runs g c =
    record {
      leaves = c.bridge_run.ensures.leaves;
      laws = c.laws_hold.ensures;
      one_session = c.scripts_have_one_trace.ensures.version_2;
    }
