use Rattle.std.proofs.Common.{ap, map, string_bytes}
use Rattle.child_engine.specs.Places.{log_file}
use Rattle.program_lifecycle.proofs.Asked.{asks_by, asks_refused, asks_reported}
use Rattle.program_lifecycle.proofs.Causes as causes
use Rattle.driver_runner.proofs.main_call.end_of.Goals as goal

pub returns-in-Ok-clause-ends : goal.returns-in-Ok-clause-ends
returns-in-Ok-clause-ends g c =
    causes.ran _ _ _ _ _ c.in-Ok.ensures.taken
    (record { failures = c.drive_run.result; first = c.of.ensures; reported = c.drive_run.ensures.leaves.reported; left = c.drive_run.ensures.leaves })

pub returns-in-Ok-clause-asked : goal.returns-in-Ok-clause-asked
returns-in-Ok-clause-asked g c =
    asks_by _ _ _ _ _ _ _ _ c.in-Ok.ensures.asked.words_are
    (asks_reported _ _ _ _ _ _ _ _ _ _ (ap (map string_bytes) c.as_slice.ensures.value) (ap log_file c.as_str.ensures.value)
    c.drive_run.ensures.leaves.reported.engine_start c.drive_run.ensures.leaves.reported.log c.drive_run.ensures.asked)

pub returns-in-Err-clause-asked : goal.returns-in-Err-clause-asked
returns-in-Err-clause-asked g c = asks_refused _ _ _ _ _ c.requires

pub returns-in-Err-clause-ends : goal.returns-in-Err-clause-ends
returns-in-Err-clause-ends g c = causes.refused _ _ _ c.in-Err.refusal _ c.from.ensures c.in-Err.ensures.usage
