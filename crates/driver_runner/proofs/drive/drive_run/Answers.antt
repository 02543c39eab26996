use Rattle.program_lifecycle.proofs.Asked.{asks_none}
use Rattle.driver_runner.proofs.Records.{leaves_by, leaves_nothing}
use Rattle.driver_runner.proofs.drive.drive_run.Goals as goal

pub returns-in-Ok-clause-leaves : goal.returns-in-Ok-clause-leaves
returns-in-Ok-clause-leaves g c = leaves_by _ _ _ _ c.run_mediator.ensures.leaves

pub returns-in-Err-clause-leaves : goal.returns-in-Err-clause-leaves
returns-in-Err-clause-leaves g c = leaves_nothing _ _ _ _ _ c.requires.unused c.only_memory.ensures

pub returns-in-Err-clause-asked : goal.returns-in-Err-clause-asked
returns-in-Err-clause-asked g c = asks_none _ _ _ _ _ c.requires.unused c.only_memory.ensures
