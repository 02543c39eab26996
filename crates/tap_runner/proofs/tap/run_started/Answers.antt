use Rattle.std.proofs.Common.{◌∙◌, ap, refl, sym, ◌||◌, Bool, false, ℕ}
use Rattle.line_io.specs.Source.{Supplied, Received}
use Rattle.program_lifecycle.specs.Streams.{log_state}
use Rattle.program_lifecycle.specs.Logs.{closed_logs}
use Rattle.program_lifecycle.proofs.Reporting.{fresh_faults}
use Rattle.program_lifecycle.specs.declared.failures.Failures.{Failures}
use Rattle.tap_runner.specs.Tapped.{TapReportsRun}
use Rattle.tap_runner.proofs.Records.{recorded_by, leaves_by}
use Rattle.tap_runner.proofs.Starts.{ran_from}
use Rattle.child_engine.specs.Hosts.{Ledger}
use Rattle.program_lifecycle.proofs.Counts.{retold, told_by, log_reported, reads_kept, writes_kept, waits_kept, starts_kept}
use Rattle.program_lifecycle.proofs.Asked.{asked_logs, opens_logs, no_log_for_memory}
use Rattle.program_lifecycle.proofs.Closes.{all_closed, is_closed, few_logs, same_count, length_reported, reported_as, some_run, never, log_opened, left_of, right_of, lacked}
use Rattle.tap_runner.proofs.tap.run_started.Goals as goal

pub returns-clause-asked : goal.returns-clause-asked
returns-clause-asked g c =
    let all = all_closed (g.H.Host.ledger c.args.host.now) (g.H.Host.ledger c.open_log-log.new.host) (g.H.Host.ledger c.close-waited.new.self) (g.H.Host.ledger c.close_log.new.host)
    (g.H.EngineSource.Source.state c.run_tap-end.new.handed.source) (g.H.EngineSink.Sink.state c.run_tap-end.new.handed.engine) _ _ c.requires.ledger c.open_log-log.ensures.ledger c.close-waited.ensures.ledger c.close_log.ensures.ledger in
    opens_logs _ _ _ _ _ _ _ _ _ c.requires.ledger c.open_log-log.ensures.asked c.close-waited.ensures.asked c.close_log.ensures.asked
    (ap (λ (b : Ledger). b.runs_out) all)
    (asked_logs g.H.Log.Sink.state c.open_log-log.result.log c.run_tap-end.new.handed.log c.open_log-log.result.fault c.is_open_failure.result _ _ _
    c.open_log-log.ensures.some c.open_log-log.ensures.none c.run_tap-end.ensures.kept c.run_tap-end.ensures.ran.to_log.count
    c.is_open_failure.ensures c.either-3.ensures (ap (λ (b : Ledger). b.logs_out) all))
    refl

pub returns-clause-leaves : goal.returns-clause-leaves
returns-clause-leaves g c =
    let h0 = g.H.Host.faults c.args.host.now in
    let h1 = g.H.Host.faults c.open_log-log.new.host in
    let h2 = g.H.Host.faults c.close-waited.new.self in
    let h3 = g.H.Host.faults c.close_log.new.host in
    let b0 = g.H.Host.ledger c.args.host.now in
    let ran = c.run_tap-end.ensures.ran in
    let closed = c.close-waited.ensures.cause in
    let all = all_closed b0 (g.H.Host.ledger c.open_log-log.new.host) (g.H.Host.ledger c.close-waited.new.self) (g.H.Host.ledger c.close_log.new.host)
    (g.H.EngineSource.Source.state c.run_tap-end.new.handed.source) (g.H.EngineSink.Sink.state c.run_tap-end.new.handed.engine) _ _ c.requires.ledger c.open_log-log.ensures.ledger c.close-waited.ensures.ledger c.close_log.ensures.ledger in
    let runs = ap (λ (b : Ledger). b.runs) all in
    let logs_out = ap (λ (b : Ledger). b.logs_out) all in
    let same = same_count c.open_log-log.result.log c.run_tap-end.new.handed.log c.run_tap-end.ensures.kept in
    let logs =
    ap (λ (b : Ledger). b.logs) all ∙ reported_as g.H.Log.Sink.state c.run_tap-end.new.handed.log
    ∙ ap (λ (n : ℕ). closed_logs n (log_state g.H.Log.Sink.state c.run_tap-end.new.handed.log)) (same ∙ sym logs_out) in
    let begun = ran_from _ _ _ _ _ _ _ _ _ _ _ c.requires.source c.requires.sink c.open_log-log.ensures.fresh logs_out ran in
    let failures : Failures = record {
      memory = c.either-2.result;
      iface_read = c.run_tap-end.result.bridge.read_failed;
      iface_write = c.run_tap-end.result.engine.write_failed;
      engine_read = c.run_tap-end.result.engine.read_failed;
      engine_write = c.run_tap-end.result.bridge.write_failed;
      engine_start = false;
      log = c.either-3.result;
      engine_wait = c.is_err.result;
    } in
    let reported : TapReportsRun c.run_tap-end.result failures = record {
      iface_read = refl;
      iface_write = refl;
      engine_read = refl;
      engine_write = refl;
      bridge_memory = λ m. left_of _ _ _ _ c.either.ensures refl (right_of _ _ _ c.either-2.ensures m);
      engine_memory = λ m. right_of _ _ _ c.either.ensures (right_of _ _ _ c.either-2.ensures m);
      log = λ l. right_of _ _ _ c.either-3.ensures l;
    } in
    leaves_by _ _ _ _ _
    (record {
      iface_read = ran.from_bridge.read_count;
      iface_write = ran.from_engine.handed.count;
      engine_read = reads_kept h0 h1 h2 h3 _ _ c.open_log-log.ensures.others c.close_log.ensures.others _
          (told_by _ _ _ _ _ (ap (λ (x : Supplied). x.faults) c.requires.source) ran.from_engine.read_count closed.reads);
      engine_write = writes_kept h0 h1 h2 h3 _ _ c.open_log-log.ensures.others c.close_log.ensures.others _
          (told_by _ _ _ _ _ (ap (λ (x : Received). x.faults) c.requires.sink) ran.from_bridge.handed.count closed.writes);
      engine_start = starts_kept h0 h1 h2 h3 _ _ c.open_log-log.ensures.others c.close_log.ensures.others closed.starts;
      log = retold _ _ _ _ (c.either-3.ensures ∙ ap (λ (b : Bool). b || c.run_tap-end.result.log_failed) c.is_open_failure.ensures)
          (log_reported _ _ _ _ _ _ _ _ (fresh_faults _ _ _ c.open_log-log.ensures.fresh) c.open_log-log.ensures.cause closed.logs ran.to_log.count c.close_log.ensures.cause);
      engine_wait = waits_kept h0 h1 h2 h3 _ _ c.open_log-log.ensures.others c.close_log.ensures.others _ c.close-waited.result c.is_err.ensures.value closed.waits;
    })
    (is_closed _ b0 _ _ _ _ all
    (length_reported g.H.Log.Sink.state c.run_tap-end.new.handed.log ∙ same_count c.open_log-log.result.log c.run_tap-end.new.handed.log c.run_tap-end.ensures.kept)
    (few_logs c.open_log-log.result.log)
    (λ m l. log_opened c.open_log-log.result.log c.open_log-log.result.fault c.open_log-log.ensures.some
    (left_of _ _ _ _ c.either-3.ensures c.is_open_failure.ensures l) (left_of _ _ _ _ c.either-2.ensures c.is_open_memory.ensures m)))
    (λ z. some_run _ _ all refl z) (λ e. never e)
    (λ _.
    record {
      last = _;
      end = c.run_tap-end.result;
      ran = begun;
      reported = reported;
      memory =
          lacked _ _ _ _ _ _ _ _ c.either-2.ensures c.is_open_memory.ensures c.either.ensures refl refl
          (λ m. no_log_for_memory c.open_log-log.result.fault c.either-3.result _ (λ z. logs_out ∙ c.open_log-log.ensures.none z)
          (asked_logs g.H.Log.Sink.state c.open_log-log.result.log c.run_tap-end.new.handed.log c.open_log-log.result.fault c.is_open_failure.result _ _ _
          c.open_log-log.ensures.some c.open_log-log.ensures.none c.run_tap-end.ensures.kept ran.to_log.count
          c.is_open_failure.ensures c.either-3.ensures logs_out) m);
      input = refl;
      output = refl;
      run_reported = runs;
      shown_logs = logs;
      recorded = recorded_by _ _ b0 (g.H.Host.ledger c.close_log.new.host) _ _ _ begun reported runs logs;
      output_gone = c.run_tap-end.ensures.output_gone;
      engine_gone = (c.run_tap-end.new.handed.engine, refl, c.run_tap-end.ensures.engine_gone);
    })
