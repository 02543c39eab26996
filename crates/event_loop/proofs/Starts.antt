-- The result of a run, seen from before the engine was started.
use Rattle.std.proofs.Common.{◌≡◌, ◌∙◌, ℕ, Bool, refl, sym, ap, subst, arith, List, Option}
use Rattle.line_io.specs.Source.{Supplied, Received}
use Rattle.program_lifecycle.specs.Streams.{RunStreams, run_streams, sinks}
use Rattle.child_engine.specs.Hosts.{Ledger, HostIsUnused, with_run, fresh_source, fresh_sink}
use Rattle.child_engine.specs.declared.host.Faults.{Faults}
use Rattle.program_lifecycle.specs.declared.failures.Failures.{Failures}
use Rattle.program_lifecycle.specs.Logs.{fresh_log}
use Rattle.program_lifecycle.specs.Early.{FailuresAreEarly}
use Rattle.program_lifecycle.specs.Outside.{Outside, outside, AreReported, HostIsClosed}
use Rattle.program_lifecycle.proofs.Early.{reported_from, early_reported, none_closed}
use Rattle.event_loop.specs.declared.run.RunEnd.{RunEnd}
use Rattle.event_loop.specs.Meaning.{MediatorMeaning}
use Rattle.event_loop.specs.Ran.{MediatorRan}
use Rattle.event_loop.specs.Mediated.{Mediated, MediatorLeaves}

-- the streams that a run began with were fresh
pub ran_from : {M : Type 0} (means : MediatorMeaning M) (m0 m : M) (first : List ℕ) (i : Supplied) (o : Received) (source : Supplied) (sink log : Received) (says : Option (List ℕ)) (sinks_report : Bool) (n n' : ℕ)
    (last : RunStreams) (end : RunEnd)
    → source ≡ fresh_source says → sink ≡ fresh_sink sinks_report → log ≡ fresh_log sinks_report n → n' ≡ n → MediatorRan means m0 m first (run_streams i source (sinks o sink log)) last end
    → MediatorRan means m0 m first (run_streams i (fresh_source says) (sinks o (fresh_sink sinks_report) (fresh_log sinks_report n'))) last end
ran_from means m0 m first i o source sink log says sinks_report n n' last end a b l e r =
    subst (λ (x : Supplied). MediatorRan means m0 m first (run_streams i x (sinks o (fresh_sink sinks_report) (fresh_log sinks_report n'))) last end) a
    (subst (λ (x : Received). MediatorRan means m0 m first (run_streams i source (sinks o x (fresh_log sinks_report n'))) last end) b
    (subst (λ (x : Received). MediatorRan means m0 m first (run_streams i source (sinks o sink x)) last end) (l ∙ ap (fresh_log sinks_report) (sym e)) r))

mediated_from : {M : Type 0} (means : MediatorMeaning M) (m0 : M) (first : List ℕ) (i : Supplied) (o : Received) (f f' : Faults) (b : Ledger) (after : Outside) (failures : Failures)
    → Mediated means m0 first (outside i o f (with_run b)) after failures → Mediated means m0 first (outside i o f' b) after failures
mediated_from means m0 first i o f f' b after failures x =
    record {
      last = x.last;
      end = x.end;
      became = x.became;
      ran = x.ran;
      reported = x.reported;
      memory = x.memory;
      input = x.input;
      output = x.output;
      run_reported = x.run_reported;
      shown_logs = x.shown_logs;
    }

pub leaves_run : {M : Type 0} (means : MediatorMeaning M) (m0 m1 : M) (first : List ℕ) (i : Supplied) (o : Received) (f f' : Faults) (b b' : Ledger) (after : Outside) (failures : Failures)
    → m1 ≡ m0 → f ≡ f' → b ≡ with_run b' → MediatorLeaves means m1 first (outside i o f b) after failures → MediatorLeaves means m0 first (outside i o f' b') after failures
leaves_run {M} means m0 m1 first i o f f' b b' after failures e h w x =
    record {
      reported = subst (λ (g : Faults). AreReported (outside i o g b') after failures) h (reported_from i o f b b' after failures x.reported);
      closed = x.closed;
      nothing = x.nothing;
      unstarted = x.unstarted;
      mediated = λ some.
          subst (λ (m : M). Mediated means m first (outside i o f' b') after failures) e
          (mediated_from means m1 first i o f f' b' after failures (subst (λ (y : Ledger). Mediated means m1 first (outside i o f y) after failures) w (x.mediated some)));
    }

pub leaves_nothing : {M : Type 0} (means : MediatorMeaning M) (m0 : M) (first : List ℕ) (i : Supplied) (o : Received) (f f' : Faults) (b b' : Ledger) (failures : Failures)
    → FailuresAreEarly f f' failures → HostIsUnused b → b' ≡ b → MediatorLeaves means m0 first (outside i o f b) (outside i o f' b') failures
leaves_nothing means m0 first i o f f' b b' failures early u e =
    let none = ap (λ (x : Ledger). x.runs_out) (e ∙ u) in
    record {
      reported = early_reported i o f f' b b' early.others failures early.starts early.why;
      closed = subst (λ (x : Ledger). HostIsClosed x failures) (sym (e ∙ u)) (none_closed b.says b.sinks_report failures early.why);
      nothing = λ _. (refl, refl);
      unstarted = λ _. none;
      mediated = λ some. absurd (omega (arith, some, none));
    }
