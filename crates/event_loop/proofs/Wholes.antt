-- The ledger's record of a run, and the result of a run in which nothing failed.
use Rattle.std.proofs.Common.{◌≡◌, ◌∙◌, ◌<◌, ℕ, Bool, true, refl, sym, ap, subst, arith, inl, List, [], ◌∷◌, ◌++◌, append-nil, Option, Some, IfSome}
use Rattle.std.specs.Io.KnownBytes.{Appends}
use Rattle.line_io.specs.Source.{Supplied, Received}
use Rattle.line_io.specs.Event.{Event}
use Rattle.line_io.specs.Lines.{items}
use Rattle.event_pipe.specs.declared.message.Peer.TheVariants as peers
use Rattle.event_pipe.specs.declared.reader.ReadEnd.{ReadEnd}
use Rattle.event_pipe.specs.declared.reader.ReadEnd.TheVariants as read_ends
use Rattle.event_pipe.specs.Events.{sent_by}
use Rattle.event_pipe.specs.Arrivals.{Arrived, arrivals, line_limit}
use Rattle.program_lifecycle.specs.Took.{LogTook}
use Rattle.child_engine.specs.Hosts.{Ledger, HostIsUnused, ShownRun, fresh_source, fresh_sink, shown_run}
use Rattle.child_engine.specs.declared.host.Faults.{Faults}
use Rattle.program_lifecycle.specs.declared.failures.Failures.{Failures}
use Rattle.program_lifecycle.specs.Early.{no_failure, only_memory}
use Rattle.program_lifecycle.specs.Logs.{fresh_log}
use Rattle.program_lifecycle.specs.Outside.{Outside, outside, AreReported, HostIsClosed}
use Rattle.program_lifecycle.proofs.Counts.{same_reported}
use Rattle.program_lifecycle.proofs.Early.{early_reported, none_closed}
use Rattle.program_lifecycle.proofs.Reporting.{sink_took, log_took, prefix_of, gave_by, is_done, if_some, reported_is}
use Rattle.event_loop.specs.Turns.{given, log_of_turn, turn_texts}
use Rattle.event_loop.specs.Meaning.{MediatorMeaning}
use Rattle.event_loop.specs.Mediated.{Mediated}
use Rattle.event_loop.specs.Recorded.{RecordedAs}

-- nothing was read, written or started
pub record Nothing (before after : Outside) (failures : Failures) : Type 0 where
  pub reported : AreReported before after failures
  pub closed : HostIsClosed after.ledger failures
  pub none : after.ledger.runs_out ≡ 0
  pub same : (after.input ≡ before.input) × (after.output ≡ before.output)

pub nothing_left : (i : Supplied) (o : Received) (f : Faults) (b : Ledger) (failures : Failures) → HostIsUnused b → failures ≡ only_memory → Nothing (outside i o f b) (outside i o f b) failures
nothing_left i o f b failures u e =
    subst (λ (x : Failures). Nothing (outside i o f b) (outside i o f b) x) (sym e)
    (record {
      reported = early_reported i o f f b b refl only_memory (same_reported f.starts f.starts refl) (inl refl);
      closed = subst (λ (x : Ledger). HostIsClosed x only_memory) (sym u) (none_closed b.says b.sinks_report only_memory (inl refl));
      none = ap (λ (x : Ledger). x.runs_out) u;
      same = (refl, refl);
    })

took_as : (text text' : List ℕ) (failed : Bool) (o o' : Received) → text ≡ text' → LogTook text failed o o' → LogTook text' failed o o'
took_as text text' failed o o' e t = subst (λ (l : List ℕ). LogTook l failed o o') e t

-- A whole run that put this into the log, gave these lines to both peers, and took this of both.
pub record WholeAs (put down up bytes : List ℕ) (later : List Event) (before after : Outside) : Type 0 where
  pub log : after.ledger.logs ≡ Some put ∷ []
  pub engine : sent_by peers.Engine later ≡ arrivals peers.Engine (items line_limit bytes)
  pub iface : Arrived peers.Iface before.input after.input (sent_by peers.Iface later) read_ends.Done
  pub run : after.ledger.runs ≡ record { given = Some bytes; left = Some []; taken = Some down } ∷ []
  pub output : Appends before.output.taken after.output.taken up

iface_as : (i j i' : Supplied) (sent : List Event) (r : ReadEnd) → j ≡ i' → r ≡ read_ends.Done → Arrived peers.Iface i j sent r → Arrived peers.Iface i i' sent read_ends.Done
iface_as i j i' sent r f h a =
    subst (λ (x : Supplied). Arrived peers.Iface i x sent read_ends.Done) f (subst (λ (x : ReadEnd). Arrived peers.Iface i j sent x) h a)

module _ {M : Type 0} (means : MediatorMeaning M) (m0 : M) (first : List ℕ) (before after : Outside) (failures : Failures) (x : Mediated means m0 first before after failures)
    (put down up : List ℕ) (put_is : turn_texts log_of_turn x.ran.looped.turns ≡ put) (down_is : turn_texts (given peers.Engine) x.ran.looped.turns ≡ down) (up_is : turn_texts (given peers.Iface) x.ran.looped.turns ≡ up) where
  to_log : LogTook put x.end.done.log (fresh_log before.ledger.sinks_report after.ledger.logs_out) x.last.into.log
  to_log = took_as _ put _ _ _ put_is x.ran.looped.log

  to_engine : LogTook down x.end.done.engine (fresh_sink before.ledger.sinks_report) x.last.into.engine
  to_engine = took_as _ down _ _ _ down_is x.ran.looped.engine.took

  to_iface : LogTook up x.end.done.output before.output x.last.into.output
  to_iface = took_as _ up _ _ _ up_is x.ran.looped.iface.took

  pub recorded_as : RecordedAs put down (sent_by peers.Engine x.ran.later) before.ledger after.ledger failures
  recorded_as =
      record {
        run = shown_run x.last.source x.last.into.engine;
        only = x.run_reported;
        log = λ sinks_report one fine. log_took before.ledger.sinks_report after.ledger.logs_out x.last.into.log put after.ledger.logs sinks_report one x.shown_logs (to_log.whole (x.reported.log fine));
        prefix = λ sinks_report one.
            let f = prefix_of put x.end.done.log (fresh_log before.ledger.sinks_report after.ledger.logs_out) x.last.into.log to_log in
            record {
              prefix = f.prefix;
              rest = f.rest;
              is = f.is;
              has = log_took before.ledger.sinks_report after.ledger.logs_out x.last.into.log f.prefix after.ledger.logs sinks_report one x.shown_logs f.took;
            };
        lines_taken = λ sinks_report fine. sink_took before.ledger.sinks_report x.last.into.engine.taken down sinks_report (to_engine.whole (sym x.reported.engine_write ∙ fine));
        gave = λ bytes says.
            gave_by bytes x.last.source x.last.into.engine.taken (sent_by peers.Engine x.ran.later) x.end.engine failures
            (subst (λ (o : Option (List ℕ)). Arrived peers.Engine (fresh_source o) x.last.source (sent_by peers.Engine x.ran.later) x.end.engine) says x.ran.engine)
            x.reported.engine_read x.reported.engine_memory;
      }

  pub whole_as : failures ≡ no_failure → after.ledger.logs_out ≡ 1 → before.ledger.sinks_report ≡ true → (bytes : List ℕ) → before.ledger.says ≡ Some bytes → WholeAs put down up bytes x.ran.later before after
  whole_as e one sinks_report bytes says =
      let memory = ap (λ (f : Failures). f.memory) e in
      let gave = recorded_as.gave bytes says in
      let all = gave.all (ap (λ (f : Failures). f.engine_read) e) memory in
      let got_is : bytes ≡ gave.got = gave.is ∙ ap (λ (rest : List ℕ). gave.got ++ rest) all.0 ∙ append-nil gave.got in
      record {
        log = recorded_as.log sinks_report one (ap (λ (f : Failures). f.log) e);
        engine = all.1 ∙ ap (λ (bs : List ℕ). arrivals peers.Engine (items line_limit bs)) (sym got_is);
        iface =
            iface_as before.input x.last.input after.input (sent_by peers.Iface x.ran.later) x.end.iface x.input
            (is_done x.end.iface (sym x.reported.iface_read ∙ ap (λ (f : Failures). f.iface_read) e) (x.reported.iface_memory memory)) x.ran.iface;
        run =
            recorded_as.only
            ∙ ap (λ (t : ShownRun). t ∷ [])
            (reported_is recorded_as.run (Some bytes) (Some []) (Some down) (gave.given ∙ ap (λ (bs : List ℕ). Some bs) (sym got_is))
            (gave.left ∙ ap (λ (bs : List ℕ). Some bs) all.0) (recorded_as.lines_taken sinks_report (ap (λ (f : Failures). f.engine_write) e)));
        output = subst (λ (o : Received). Appends before.output.taken o.taken up) x.output (to_iface.whole (sym x.reported.iface_write ∙ ap (λ (f : Failures). f.iface_write) e));
      }

pub when_whole : {X : Type 0} (P : List ℕ → Type 0) (before after : Outside) (failures : Failures) → HostIsClosed after.ledger failures → (0 < after.ledger.runs_out → X) → failures ≡ no_failure
    → (X → after.ledger.logs_out ≡ 1 → (bytes : List ℕ) → before.ledger.says ≡ Some bytes → P bytes) → IfSome before.ledger.says P
when_whole P before after failures closed made e whole =
    let all = subst (λ (f : Failures). HostIsClosed after.ledger f) e closed in
    let one = all.run refl refl in
    if_some P before.ledger.says (λ bytes says. whole (made (omega (arith, one))) (all.log refl refl refl) bytes says)
