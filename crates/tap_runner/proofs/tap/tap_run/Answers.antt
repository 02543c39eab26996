use Rattle.std.proofs.Common.{ap, map, refl, string_bytes}
use Rattle.child_engine.specs.Places.{log_file}
use Rattle.program_lifecycle.proofs.Asked.{asks_as, asks_one, asks_early}
use Rattle.tap_runner.proofs.Starts.{leaves_run, leaves_nothing}
use Rattle.tap_runner.proofs.tap.tap_run.Goals as goal

pub returns-in-Ok-clause-leaves : goal.returns-in-Ok-clause-leaves
returns-in-Ok-clause-leaves g c = leaves_run _ _ _ _ _ _ _ _ _ _ c.in-Ok.ensures.faults c.in-Ok.ensures.ledger c.run_started.ensures.leaves

pub returns-in-Ok-clause-asked : goal.returns-in-Ok-clause-asked
returns-in-Ok-clause-asked g c =
    asks_as _ _ _ _ _ _ _ _ (ap (map string_bytes) c.as_slice.ensures.value) (ap log_file c.as_str.ensures.value)
    (asks_one _ _ _ _ _ _ _ _ _ c.requires.unused c.in-Ok.ensures.ledger c.in-Ok.ensures.asked c.run_started.ensures.asked)

pub returns-in-Err-clause-leaves : goal.returns-in-Err-clause-leaves
returns-in-Err-clause-leaves g c = leaves_nothing _ _ _ _ _ _ _ _ _ c.in-Err.ensures.early c.requires.unused c.in-Err.ensures.unstarted

pub returns-in-Err-clause-asked : goal.returns-in-Err-clause-asked
returns-in-Err-clause-asked g c =
    asks_as _ _ _ _ _ _ _ _ (ap (map string_bytes) c.as_slice.ensures.value) refl
    (asks_early _ _ _ _ _ _ _ _ _ c.requires.unused c.in-Err.ensures.unstarted c.in-Err.ensures.asked c.in-Err.ensures.early)
