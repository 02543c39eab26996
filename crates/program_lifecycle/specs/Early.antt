-- The failures of a run that did not begin.
use Rattle.std.specs.Prelude.{◌≡◌, ◌⊎◌, true, false}
use Rattle.event_pipe.specs.Counts.{CountsFault}
use Rattle.child_engine.specs.declared.host.Faults.{Faults}
use Rattle.program_lifecycle.specs.declared.failures.Failures.{Failures}

abbrev pub no_failure : Failures
no_failure =
    record {
      memory = false;
      iface_read = false;
      iface_write = false;
      engine_read = false;
      engine_write = false;
      engine_start = false;
      log = false;
      engine_wait = false;
    }

abbrev pub only_memory : Failures
only_memory = record no_failure { memory = true }

abbrev pub only_start : Failures
only_start = record no_failure { engine_start = true }

-- the only failure is one of memory, or of starting the engine
pub record FailuresAreEarly (before after : Faults) (failures : Failures) : Type 0 where
  pub starts : CountsFault before.starts after.starts failures.engine_start
  pub others : after ≡ record before { starts = after.starts }
  pub why : (failures ≡ only_memory) ⊎ (failures ≡ only_start)
