use Rattle.std.proofs.Common.{◌∙◌, ap, map, string_bytes}
use Rattle.child_engine.specs.Places.{log_file}
use Rattle.program_lifecycle.proofs.Asked.{asks_refused, asks_reported}
use Rattle.program_lifecycle.proofs.Causes as causes
use Rattle.bridge_runner.proofs.main_call.end_of.Goals as goal

pub returns-in-Ok-clause-ends : goal.returns-in-Ok-clause-ends
returns-in-Ok-clause-ends g c =
    causes.ran _ _ _ _ _ c.in-Ok.ensures.taken
    (record {
      failures = c.run_bridge.result;
      first = c.of.ensures;
      reported = c.run_bridge.ensures.runs.leaves.reported;
      left = record { settings = c.in-Ok.asked.settings; asked = c.in-Ok.ensures.asked.settings; proper = c.in-Ok.ensures.proper; runs = c.run_bridge.ensures.runs };
    })

pub returns-in-Ok-clause-asked : goal.returns-in-Ok-clause-asked
returns-in-Ok-clause-asked g c =
    let reported = c.run_bridge.ensures.runs.leaves.reported in
    asks_reported _ _ _ _ _ _ _ _ _ _ (ap (map string_bytes) c.as_slice.ensures.value ∙ c.in-Ok.ensures.asked.engine)
    (ap log_file (c.as_str.ensures.value ∙ c.in-Ok.ensures.asked.log)) reported.engine_start reported.log c.run_bridge.ensures.asked

pub returns-in-Err-clause-asked : goal.returns-in-Err-clause-asked
returns-in-Err-clause-asked g c = asks_refused _ _ _ _ _ c.requires

pub returns-in-Err-clause-ends : goal.returns-in-Err-clause-ends
returns-in-Err-clause-ends g c = causes.refused _ _ _ c.in-Err.refusal _ c.from.ensures c.in-Err.ensures.usage
