use Rattle.std.proofs.Common.{◌∙◌, ap, refl, sym, ◌||◌, Bool, ℕ}
use Rattle.line_io.specs.Source.{Supplied, Received}
use Rattle.child_engine.specs.Hosts.{Ledger}
use Rattle.program_lifecycle.specs.Streams.{log_state}
use Rattle.program_lifecycle.specs.Logs.{closed_logs}
use Rattle.program_lifecycle.proofs.Reporting.{fresh_faults}
use Rattle.program_lifecycle.proofs.Counts.{retold, told_by, log_reported, reads_kept, writes_kept, waits_kept, starts_kept}
use Rattle.program_lifecycle.proofs.Asked.{asked_logs, opens_logs, no_log_for_memory}
use Rattle.program_lifecycle.proofs.Closes.{all_closed, is_closed, few_logs, same_count, length_reported, reported_as, some_run, never, log_opened, left_of, right_of, lacked}
use Rattle.event_loop.proofs.Starts.{ran_from}
use Rattle.event_loop.proofs.hosted.run_started.Goals as goal

pub returns-clause-asked : goal.returns-clause-asked
returns-clause-asked g c =
    let all = all_closed (g.H.Host.ledger c.args.host.now) (g.H.Host.ledger c.open_log-log.new.host) (g.H.Host.ledger c.close-waited.new.self) (g.H.Host.ledger c.close_log.new.host)
    (g.H.EngineSource.Source.state c.run_pipes.new.handed.source) (g.H.EngineSink.Sink.state c.run_pipes.new.handed.engine) _ _ c.requires.ledger c.open_log-log.ensures.ledger c.close-waited.ensures.ledger c.close_log.ensures.ledger in
    opens_logs _ _ _ _ _ _ _ _ _ c.requires.ledger c.open_log-log.ensures.asked c.close-waited.ensures.asked c.close_log.ensures.asked
    (ap (λ (b : Ledger). b.runs_out) all)
    (asked_logs g.H.Log.Sink.state c.open_log-log.result.log c.run_pipes.new.handed.log c.open_log-log.result.fault c.is_open_failure.result _ _ _
    c.open_log-log.ensures.some c.open_log-log.ensures.none c.run_pipes.ensures.kept c.run_pipes.ensures.ran.looped.log.count
    c.is_open_failure.ensures c.either-3.ensures (ap (λ (b : Ledger). b.logs_out) all))
    refl

pub returns-clause-leaves : goal.returns-clause-leaves
returns-clause-leaves g c =
    let h0 = g.H.Host.faults c.args.host.now in
    let h1 = g.H.Host.faults c.open_log-log.new.host in
    let h2 = g.H.Host.faults c.close-waited.new.self in
    let h3 = g.H.Host.faults c.close_log.new.host in
    let b0 = g.H.Host.ledger c.args.host.now in
    let ran = c.run_pipes.ensures.ran in
    let closed = c.close-waited.ensures.cause in
    let all = all_closed b0 (g.H.Host.ledger c.open_log-log.new.host) (g.H.Host.ledger c.close-waited.new.self) (g.H.Host.ledger c.close_log.new.host)
    (g.H.EngineSource.Source.state c.run_pipes.new.handed.source) (g.H.EngineSink.Sink.state c.run_pipes.new.handed.engine) _ _ c.requires.ledger c.open_log-log.ensures.ledger c.close-waited.ensures.ledger c.close_log.ensures.ledger in
    let logs_out = ap (λ (b : Ledger). b.logs_out) all in
    let same = same_count c.open_log-log.result.log c.run_pipes.new.handed.log c.run_pipes.ensures.kept in
    record {
      reported =
          record {
            iface_read = retold _ _ _ _ c.has_failed.ensures ran.iface.count;
            iface_write = ran.looped.iface.took.count;
            engine_read = reads_kept h0 h1 h2 h3 _ _ c.open_log-log.ensures.others c.close_log.ensures.others _
                (told_by _ _ _ _ _ (ap (λ (x : Supplied). x.faults) c.requires.source) (retold _ _ _ _ c.has_failed-2.ensures ran.engine.count) closed.reads);
            engine_write = writes_kept h0 h1 h2 h3 _ _ c.open_log-log.ensures.others c.close_log.ensures.others _
                (told_by _ _ _ _ _ (ap (λ (x : Received). x.faults) c.requires.sink) ran.looped.engine.took.count closed.writes);
            engine_start = starts_kept h0 h1 h2 h3 _ _ c.open_log-log.ensures.others c.close_log.ensures.others closed.starts;
            log = retold _ _ _ _ (c.either-3.ensures ∙ ap (λ (b : Bool). b || c.run_pipes.result.end.done.log) c.is_open_failure.ensures)
                (log_reported _ _ _ _ _ _ _ _ (fresh_faults _ _ _ c.open_log-log.ensures.fresh) c.open_log-log.ensures.cause closed.logs ran.looped.log.count c.close_log.ensures.cause);
            engine_wait = waits_kept h0 h1 h2 h3 _ _ c.open_log-log.ensures.others c.close_log.ensures.others _ c.close-waited.result c.is_err.ensures.value closed.waits;
          };
      closed =
          is_closed _ b0 _ _ _ _ all
          (length_reported g.H.Log.Sink.state c.run_pipes.new.handed.log ∙ same)
          (few_logs c.open_log-log.result.log)
          (λ m l. log_opened c.open_log-log.result.log c.open_log-log.result.fault c.open_log-log.ensures.some
          (left_of _ _ _ _ c.either-3.ensures c.is_open_failure.ensures l) (left_of _ _ _ _ c.either-2.ensures c.is_open_memory.ensures m));
      nothing = λ z. some_run _ _ all refl z;
      unstarted = λ e. never e;
      mediated = λ _.
          record {
            last = _;
            end = c.run_pipes.result.end;
            became = _;
            ran = ran_from _ _ _ _ _ _ _ _ _ _ _ _ _ _ _ c.requires.source c.requires.sink c.open_log-log.ensures.fresh logs_out ran;
            reported = record {
              iface_read = c.has_failed.ensures;
              iface_write = refl;
              engine_read = c.has_failed-2.ensures;
              engine_write = refl;
              iface_memory = λ m. left_of _ _ _ _ c.either.ensures c.has_lacked_memory.ensures (right_of _ _ _ c.either-2.ensures m);
              engine_memory = λ m. sym c.has_lacked_memory-2.ensures ∙ right_of _ _ _ c.either.ensures (right_of _ _ _ c.either-2.ensures m);
              log = λ l. right_of _ _ _ c.either-3.ensures l;
            };
            memory =
                lacked _ _ _ _ _ _ _ _ c.either-2.ensures c.is_open_memory.ensures c.either.ensures c.has_lacked_memory.ensures c.has_lacked_memory-2.ensures
                (λ m. no_log_for_memory c.open_log-log.result.fault c.either-3.result _ (λ z. logs_out ∙ c.open_log-log.ensures.none z)
                (asked_logs g.H.Log.Sink.state c.open_log-log.result.log c.run_pipes.new.handed.log c.open_log-log.result.fault c.is_open_failure.result _ _ _
                c.open_log-log.ensures.some c.open_log-log.ensures.none c.run_pipes.ensures.kept ran.looped.log.count
                c.is_open_failure.ensures c.either-3.ensures logs_out) m);
            input = refl;
            output = refl;
            run_reported = ap (λ (b : Ledger). b.runs) all;
            shown_logs = ap (λ (b : Ledger). b.logs) all ∙ reported_as g.H.Log.Sink.state c.run_pipes.new.handed.log
                ∙ ap (λ (n : ℕ). closed_logs n (log_state g.H.Log.Sink.state c.run_pipes.new.handed.log)) (same ∙ sym logs_out);
          };
    }
