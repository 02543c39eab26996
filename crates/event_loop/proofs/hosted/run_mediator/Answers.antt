use Rattle.program_lifecycle.proofs.Asked.{asks_one, asks_early}
use Rattle.event_loop.proofs.Starts.{leaves_run, leaves_nothing}
use Rattle.event_loop.proofs.hosted.run_mediator.Goals as goal

pub returns-in-Ok-clause-leaves : goal.returns-in-Ok-clause-leaves
returns-in-Ok-clause-leaves g c = leaves_run _ _ _ _ _ _ _ _ _ _ _ _ c.in-Ok.ensures.same c.in-Ok.ensures.faults c.in-Ok.ensures.ledger c.run_started.ensures.leaves

pub returns-in-Ok-clause-asked : goal.returns-in-Ok-clause-asked
returns-in-Ok-clause-asked g c =
    asks_one _ _ _ _ _ _ _ _ _ c.requires.unused c.in-Ok.ensures.ledger c.in-Ok.ensures.asked c.run_started.ensures.asked

pub returns-in-Err-clause-asked : goal.returns-in-Err-clause-asked
returns-in-Err-clause-asked g c = asks_early _ _ _ _ _ _ _ _ _ c.requires.unused c.in-Err.ensures.unstarted c.in-Err.ensures.asked c.in-Err.ensures.early

pub returns-in-Err-clause-leaves : goal.returns-in-Err-clause-leaves
returns-in-Err-clause-leaves g c = leaves_nothing _ _ _ _ _ _ _ _ _ _ c.in-Err.ensures.early c.requires.unused c.in-Err.ensures.unstarted
