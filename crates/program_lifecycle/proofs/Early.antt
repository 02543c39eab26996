-- The result of a run whose engine was not started, seen from before the start.
use Rattle.std.proofs.Common.{◌≡◌, ◌∙◌, ◌⊎◌, ℕ, Bool, true, false, List, Option, refl, sym, ap, subst, arith, inl, inr}
use Rattle.line_io.specs.Source.{Supplied, Received}
use Rattle.event_pipe.specs.Counts.{CountsFault}
use Rattle.child_engine.specs.Hosts.{Ledger, unused_ledger}
use Rattle.child_engine.specs.declared.host.Faults.{Faults}
use Rattle.program_lifecycle.specs.declared.failures.Failures.{Failures}
use Rattle.program_lifecycle.specs.Early.{only_memory, only_start}
use Rattle.program_lifecycle.specs.Outside.{Outside, outside, AreReported, HostIsClosed}
use Rattle.program_lifecycle.proofs.Counts.{same_reported}

pub reported_from : (i : Supplied) (o : Received) (f : Faults) (b b' : Ledger) (after : Outside) (failures : Failures)
    → AreReported (outside i o f b) after failures → AreReported (outside i o f b') after failures
reported_from i o f b b' after failures x =
    record {
      iface_read = x.iface_read;
      iface_write = x.iface_write;
      engine_read = x.engine_read;
      engine_write = x.engine_write;
      engine_start = x.engine_start;
      log = x.log;
      engine_wait = x.engine_wait;
    }

pub early_reported : (i : Supplied) (o : Received) (f f' : Faults) (b b' : Ledger) → f' ≡ record f { starts = f'.starts }
    → (failures : Failures) → CountsFault f.starts f'.starts failures.engine_start → (failures ≡ only_memory) ⊎ (failures ≡ only_start)
    → AreReported (outside i o f b) (outside i o f' b') failures
early_reported i o f f' b b' e failures t (inl w) =
    subst (λ (x : Failures). AreReported (outside i o f b) (outside i o f' b') x) (sym w)
    (record {
      iface_read = same_reported i.faults i.faults refl;
      iface_write = same_reported o.faults o.faults refl;
      engine_read = same_reported f.reads f'.reads (ap (λ (x : Faults). x.reads) e);
      engine_write = same_reported f.writes f'.writes (ap (λ (x : Faults). x.writes) e);
      engine_start = subst (λ (x : Failures). CountsFault f.starts f'.starts x.engine_start) w t;
      log = same_reported f.logs f'.logs (ap (λ (x : Faults). x.logs) e);
      engine_wait = same_reported f.waits f'.waits (ap (λ (x : Faults). x.waits) e);
    })
early_reported i o f f' b b' e failures t (inr w) =
    subst (λ (x : Failures). AreReported (outside i o f b) (outside i o f' b') x) (sym w)
    (record {
      iface_read = same_reported i.faults i.faults refl;
      iface_write = same_reported o.faults o.faults refl;
      engine_read = same_reported f.reads f'.reads (ap (λ (x : Faults). x.reads) e);
      engine_write = same_reported f.writes f'.writes (ap (λ (x : Faults). x.writes) e);
      engine_start = subst (λ (x : Failures). CountsFault f.starts f'.starts x.engine_start) w t;
      log = same_reported f.logs f'.logs (ap (λ (x : Faults). x.logs) e);
      engine_wait = same_reported f.waits f'.waits (ap (λ (x : Faults). x.waits) e);
    })

pub none_closed : (says : Option (List ℕ)) (sinks_report : Bool) (failures : Failures) → (failures ≡ only_memory) ⊎ (failures ≡ only_start) → HostIsClosed (unused_ledger says sinks_report) failures
none_closed says sinks_report failures (inl w) =
    record {
      runs = refl;
      logs = refl;
      few_runs = omega arith;
      few_logs = omega arith;
      run = λ m s. let z : true ≡ false = ap (λ (x : Failures). x.memory) (sym w) ∙ m in cc;
      log = λ m s l. let z : true ≡ false = ap (λ (x : Failures). x.memory) (sym w) ∙ m in cc;
      unlogged = λ _. (refl, ap (λ (x : Failures). x.log) w);
    }
none_closed says sinks_report failures (inr w) =
    record {
      runs = refl;
      logs = refl;
      few_runs = omega arith;
      few_logs = omega arith;
      run = λ m s. let z : true ≡ false = ap (λ (x : Failures). x.engine_start) (sym w) ∙ s in cc;
      log = λ m s l. let z : true ≡ false = ap (λ (x : Failures). x.engine_start) (sym w) ∙ s in cc;
      unlogged = λ _. (refl, ap (λ (x : Failures). x.log) w);
    }
