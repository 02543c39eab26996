-- The part of the outside that a run sees, and what its failures say of it.
use Rattle.std.specs.Prelude.{◌≡◌, ◌≤◌, false, length}
use Rattle.line_io.specs.Causes.{Rose}
use Rattle.line_io.specs.Source.{Supplied, Received}
use Rattle.event_pipe.specs.Counts.{CountsFault}
use Rattle.program_lifecycle.specs.declared.streams.Interface.{Interface}
use Rattle.child_engine.specs.Hosts.{Ledger}
use Rattle.child_engine.specs.declared.host.Faults.{Faults}
use Rattle.program_lifecycle.specs.declared.failures.Failures.{Failures}

-- the interface's streams, and what the host counts and reports
pub record Outside : Type 0 where
  pub input : Supplied
  pub output : Received
  pub faults : Faults
  pub ledger : Ledger

abbrev pub outside : Supplied → Received → Faults → Ledger → Outside
outside input output faults ledger =
    record { input = input; output = output; faults = faults; ledger = ledger }

-- the same of the interface and the host, by what each shows
abbrev pub outside_of : {I O H : Type 0} → (I → Supplied) → (O → Received) → (H → Faults)
    → (H → Ledger) → Interface I O → H → Outside
outside_of input output faults ledger interface host =
    outside (input interface.input) (output interface.output) (faults host) (ledger host)

-- each count rose if its failure is reported, and is as before if it is not
pub record AreReported (before after : Outside) (failures : Failures) : Type 0 where
  pub iface_read : CountsFault before.input.faults after.input.faults failures.iface_read
  pub iface_write : CountsFault before.output.faults after.output.faults failures.iface_write
  pub engine_read : CountsFault before.faults.reads after.faults.reads failures.engine_read
  pub engine_write : CountsFault before.faults.writes after.faults.writes failures.engine_write
  pub engine_start : CountsFault before.faults.starts after.faults.starts failures.engine_start
  pub log : CountsFault before.faults.logs after.faults.logs failures.log
  pub engine_wait : CountsFault before.faults.waits after.faults.waits failures.engine_wait

-- no count of faults rose
pub record HaveNotRisen (before after : Outside) : Type 0 where
  pub input : Rose before.input.faults after.input.faults → ⊥
  pub output : Rose before.output.faults after.output.faults → ⊥
  pub reads : Rose before.faults.reads after.faults.reads → ⊥
  pub writes : Rose before.faults.writes after.faults.writes → ⊥
  pub starts : Rose before.faults.starts after.faults.starts → ⊥
  pub logs : Rose before.faults.logs after.faults.logs → ⊥
  pub waits : Rose before.faults.waits after.faults.waits → ⊥

-- each count of faults is as before
pub record AreAsBefore (before after : Outside) : Type 0 where
  pub input : after.input.faults ≡ before.input.faults
  pub output : after.output.faults ≡ before.output.faults
  pub reads : after.faults.reads ≡ before.faults.reads
  pub writes : after.faults.writes ≡ before.faults.writes
  pub starts : after.faults.starts ≡ before.faults.starts
  pub logs : after.faults.logs ≡ before.faults.logs
  pub waits : after.faults.waits ≡ before.faults.waits

-- no log was handed out, and none failed: neither when it was to be opened nor later
abbrev pub HasNoLog : Ledger → Failures → Type 0
HasNoLog ledger failures = (ledger.logs_out ≡ 0) × (failures.log ≡ false)

-- The parts handed out are closed, and they are one run and one log, except if a failure reports less.
pub record HostIsClosed (ledger : Ledger) (failures : Failures) : Type 0 where
  pub runs : length ledger.runs ≡ ledger.runs_out
  pub logs : length ledger.logs ≡ ledger.logs_out
  pub few_runs : ledger.runs_out ≤ 1
  pub few_logs : ledger.logs_out ≤ 1
  pub run : failures.memory ≡ false → failures.engine_start ≡ false → ledger.runs_out ≡ 1
  pub log : failures.memory ≡ false → failures.engine_start ≡ false → failures.log ≡ false
      → ledger.logs_out ≡ 1
  -- no run, no log
  pub unlogged : ledger.runs_out ≡ 0 → HasNoLog ledger failures
