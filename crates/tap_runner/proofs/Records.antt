-- The record of a run in the ledger of a host that reports its bytes.
use Rattle.std.proofs.Common.{◌≡◌, ◌∙◌, ◌<◌, ℕ, true, false, refl, sym, ap, subst, arith, List, [], ◌∷◌, ◌++◌, append-nil, Option, Some, IfSome}
use Rattle.std.specs.Io.KnownBytes.{Appends, IsAtEnd}
use Rattle.line_io.specs.Source.{Supplied, Received}
use Rattle.line_io.specs.Lines.{SourceGave}
use Rattle.event_pipe.specs.declared.message.Peer.TheVariants as peers
use Rattle.program_lifecycle.specs.Streams.{RunStreams, run_streams, sinks}
use Rattle.child_engine.specs.Hosts.{Ledger, ShownRun, fresh_source, fresh_sink, shown_run}
use Rattle.program_lifecycle.specs.declared.failures.Failures.{Failures}
use Rattle.program_lifecycle.specs.Early.{no_failure}
use Rattle.program_lifecycle.specs.Logs.{fresh_log, closed_logs}
use Rattle.program_lifecycle.specs.Outside.{Outside, AreReported, HostIsClosed}
use Rattle.program_lifecycle.proofs.Reporting.{taken_is, left_is, none_left, sink_took, log_took, prefix_of, if_some, reported_is}
use Rattle.tap_runner.specs.declared.run.TapEnd.{TapEnd}
use Rattle.tap_runner.specs.Marks.{log_text, channel_marks}
use Rattle.tap_runner.specs.Ran.{TapRan}
use Rattle.tap_runner.specs.Recorded.{SaidPrefix, TapRecorded, TapRunIsWhole}
use Rattle.tap_runner.specs.Tapped.{TapReportsRun, Tapped, TapLeaves}

said_by : (bytes got : List ℕ) (last : Supplied) (taken : Option (List ℕ)) (failures : Failures) → SourceGave (fresh_source (Some bytes)) last got
    → (failures.engine_read ≡ false → failures.iface_write ≡ false → IsAtEnd last.left) → SaidPrefix bytes got (record { given = last.given; left = last.left; taken = taken }) failures
said_by bytes got last taken failures reads all =
    let l = left_is bytes got last.left reads.left in
    record {
      rest = l.0;
      is = l.1;
      given = taken_is last.given got reads.given;
      left = l.2;
      all = λ r w. none_left last.left l.0 l.2 (all r w);
    }

pub recorded_by : (i : Supplied) (o : Received) (before after : Ledger) (failures : Failures) (last : RunStreams) (end : TapEnd)
    (ran : TapRan (run_streams i (fresh_source before.says) (sinks o (fresh_sink before.sinks_report) (fresh_log before.sinks_report after.logs_out))) last end)
    → TapReportsRun end failures → after.runs ≡ shown_run last.source last.into.engine ∷ [] → after.logs ≡ closed_logs after.logs_out last.into.log
    → TapRecorded ran.from_bridge.got ran.from_engine.got ran.messages before after failures
recorded_by i o before after failures last end ran reported runs logs =
    let text = log_text ran.messages in
    let got = ran.from_engine.got in
    record {
      run = shown_run last.source last.into.engine;
      only = runs;
      log = λ sinks_report one fine. log_took before.sinks_report after.logs_out last.into.log text after.logs sinks_report one logs (ran.to_log.whole (reported.log fine));
      prefix = λ sinks_report one.
          let f = prefix_of text end.log_failed (fresh_log before.sinks_report after.logs_out) last.into.log ran.to_log in
          record {
            prefix = f.prefix;
            rest = f.rest;
            is = f.is;
            has = log_took before.sinks_report after.logs_out last.into.log f.prefix after.logs sinks_report one logs f.took;
          };
      passed = λ sinks_report fine. sink_took before.sinks_report last.into.engine.taken ran.from_bridge.got sinks_report (ran.from_bridge.handed.whole (sym reported.engine_write ∙ fine));
      gave = λ bytes says.
          said_by bytes got last.source last.into.engine.taken failures
          (subst (λ (x : Option (List ℕ)). SourceGave (fresh_source x) last.source got) says ran.from_engine.reads)
          (λ r w. subst (λ (x : Option (List ℕ)). IfSome x (λ _. IsAtEnd last.source.left)) says (ran.from_engine.all (sym reported.engine_read ∙ r) (sym reported.iface_write ∙ w)));
    }

module _ (Gone : Type 0) (Let : Received → Type 0) (before after : Outside) where
  whole_run : (b : Tapped Gone Let before after no_failure) → after.ledger.logs_out ≡ 1 → before.ledger.sinks_report ≡ true → (bytes : List ℕ) → before.ledger.says ≡ Some bytes → TapRunIsWhole bytes before after
  whole_run b one sinks_report bytes says =
      let down = b.ran.from_bridge in
      let up = b.ran.from_engine in
      let gave = b.recorded.gave bytes says in
      let none = gave.all refl refl in
      let got_is : bytes ≡ up.got = gave.is ∙ ap (λ (rest : List ℕ). up.got ++ rest) none ∙ append-nil up.got in
      record {
        wrote = down.got;
        reads = subst (λ (x : Supplied). SourceGave before.input x down.got) b.input down.reads;
        at_end = subst (λ (x : Supplied). IfSome before.input.left (λ _. IsAtEnd x.left)) b.input (down.all (sym b.reported.iface_read) (sym b.reported.engine_write));
        run =
            b.recorded.only
            ∙ ap (λ (x : ShownRun). x ∷ [])
            (reported_is b.recorded.run (Some bytes) (Some []) (Some down.got) (gave.given ∙ ap (λ (x : List ℕ). Some x) (sym got_is)) (gave.left ∙ ap (λ (x : List ℕ). Some x) none)
            (b.recorded.passed sinks_report refl));
        output =
            subst (λ (x : List ℕ). Appends before.output.taken after.output.taken x) (sym got_is)
            (subst (λ (o : Received). Appends before.output.taken o.taken up.got) b.output (up.handed.whole (sym b.reported.iface_write)));
        messages = b.ran.messages;
        from_bridge = down.reported (b.reported.bridge_memory refl);
        from_engine = up.reported (b.reported.engine_memory refl) ∙ ap (channel_marks peers.Engine) (sym got_is);
        log = b.recorded.log sinks_report one refl;
      }

  whole_by : (failures : Failures) → HostIsClosed after.ledger failures → (0 < after.ledger.runs_out → Tapped Gone Let before after failures) → failures ≡ no_failure → before.ledger.sinks_report ≡ true
      → IfSome before.ledger.says (λ bytes. TapRunIsWhole bytes before after)
  whole_by failures closed tapped e sinks_report =
      let all = subst (λ (f : Failures). HostIsClosed after.ledger f) e closed in
      let run = subst (λ (f : Failures). 0 < after.ledger.runs_out → Tapped Gone Let before after f) e tapped in
      let one = all.run refl refl in
      if_some (λ bytes. TapRunIsWhole bytes before after) before.ledger.says (λ bytes says. whole_run (run (omega (arith, one))) (all.log refl refl refl) sinks_report bytes says)

  pub leaves_by : (failures : Failures) → AreReported before after failures → HostIsClosed after.ledger failures
      → (after.ledger.runs_out ≡ 0 → (after.input ≡ before.input) × (after.output ≡ before.output)) → (failures.engine_start ≡ true → after.ledger.runs_out ≡ 0)
      → (0 < after.ledger.runs_out → Tapped Gone Let before after failures) → TapLeaves Gone Let before after failures
  leaves_by failures reported closed nothing unstarted tapped =
      record {
        reported = reported;
        closed = closed;
        nothing = nothing;
        unstarted = unstarted;
        tapped = tapped;
        whole = λ e sinks_report. whole_by failures closed tapped e sinks_report;
      }
