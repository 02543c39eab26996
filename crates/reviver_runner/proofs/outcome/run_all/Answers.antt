use Rattle.reviver_runner.proofs.outcome.run_all.Goals as goal

pub returns-clause-ran : goal.returns-clause-ran
returns-clause-ran g c = record { last = _; lives = c.run_lives-start.ensures.ran; drained = c.drain.ensures.drained }
