-- The result of a run, seen from before the engine was started.
use Rattle.std.proofs.Common.{◌≡◌, ◌∙◌, ℕ, Bool, refl, sym, ap, subst, arith, List, Option}
use Rattle.line_io.specs.Source.{Supplied, Received}
use Rattle.program_lifecycle.specs.Streams.{RunStreams, run_streams, sinks}
use Rattle.child_engine.specs.Hosts.{Ledger, HostIsUnused, with_run, fresh_source, fresh_sink}
use Rattle.child_engine.specs.declared.host.Faults.{Faults}
use Rattle.program_lifecycle.specs.declared.failures.Failures.{Failures}
use Rattle.program_lifecycle.specs.Logs.{fresh_log}
use Rattle.program_lifecycle.specs.Early.{FailuresAreEarly}
use Rattle.program_lifecycle.specs.Outside.{Outside, outside, AreReported, HostIsClosed}
use Rattle.program_lifecycle.proofs.Early.{reported_from, early_reported, none_closed}
use Rattle.tap_runner.specs.declared.run.TapEnd.{TapEnd}
use Rattle.tap_runner.specs.Ran.{TapRan}
use Rattle.tap_runner.specs.Tapped.{Tapped, TapLeaves}
use Rattle.tap_runner.proofs.Records.{leaves_by}

-- the streams that a run began with were fresh
pub ran_from : (i : Supplied) (o : Received) (source : Supplied) (sink log : Received) (says : Option (List ℕ)) (sinks_report : Bool) (n n' : ℕ) (last : RunStreams) (end : TapEnd)
    → source ≡ fresh_source says → sink ≡ fresh_sink sinks_report → log ≡ fresh_log sinks_report n → n' ≡ n → TapRan (run_streams i source (sinks o sink log)) last end
    → TapRan (run_streams i (fresh_source says) (sinks o (fresh_sink sinks_report) (fresh_log sinks_report n'))) last end
ran_from i o source sink log says sinks_report n n' last end a b l e r =
    subst (λ (x : Supplied). TapRan (run_streams i x (sinks o (fresh_sink sinks_report) (fresh_log sinks_report n'))) last end) a
    (subst (λ (x : Received). TapRan (run_streams i source (sinks o x (fresh_log sinks_report n'))) last end) b
    (subst (λ (x : Received). TapRan (run_streams i source (sinks o sink x)) last end) (l ∙ ap (fresh_log sinks_report) (sym e)) r))

tapped_from : (G : Type 0) (E : Received → Type 0) (i : Supplied) (o : Received) (f f' : Faults) (b : Ledger) (after : Outside) (failures : Failures)
    → Tapped G E (outside i o f (with_run b)) after failures → Tapped G E (outside i o f' b) after failures
tapped_from G E i o f f' b after failures x =
    record {
      last = x.last;
      end = x.end;
      ran = x.ran;
      reported = x.reported;
      memory = x.memory;
      input = x.input;
      output = x.output;
      run_reported = x.run_reported;
      shown_logs = x.shown_logs;
      recorded = record { run = x.recorded.run; only = x.recorded.only; log = x.recorded.log; prefix = x.recorded.prefix; passed = x.recorded.passed; gave = x.recorded.gave };
      output_gone = x.output_gone;
      engine_gone = x.engine_gone;
    }

pub leaves_run : (G : Type 0) (E : Received → Type 0) (i : Supplied) (o : Received) (f f' : Faults) (b b' : Ledger) (after : Outside) (failures : Failures)
    → f ≡ f' → b ≡ with_run b' → TapLeaves G E (outside i o f b) after failures → TapLeaves G E (outside i o f' b') after failures
leaves_run G E i o f f' b b' after failures h w x =
    leaves_by G E (outside i o f' b') after failures (subst (λ (g : Faults). AreReported (outside i o g b') after failures) h (reported_from i o f b b' after failures x.reported)) x.closed
    x.nothing x.unstarted
    (λ some. tapped_from G E i o f f' b' after failures (subst (λ (y : Ledger). Tapped G E (outside i o f y) after failures) w (x.tapped some)))

pub leaves_nothing : (G : Type 0) (E : Received → Type 0) (i : Supplied) (o : Received) (f f' : Faults) (b b' : Ledger) (failures : Failures)
    → FailuresAreEarly f f' failures → HostIsUnused b → b' ≡ b → TapLeaves G E (outside i o f b) (outside i o f' b') failures
leaves_nothing G E i o f f' b b' failures early u e =
    let none = ap (λ (x : Ledger). x.runs_out) (e ∙ u) in
    leaves_by G E (outside i o f b) (outside i o f' b') failures (early_reported i o f f' b b' early.others failures early.starts early.why)
    (subst (λ (x : Ledger). HostIsClosed x failures) (sym (e ∙ u)) (none_closed b.says b.sinks_report failures early.why)) (λ _. (refl, refl)) (λ _. none)
    (λ some. absurd (omega (arith, some, none)))
