use Rattle.std.proofs.Common.{◌∙◌, ap, refl, sym, ◌||◌, Bool, ℕ}
use Rattle.std.proofs.lemmas.Bool.{or_cases}
use Rattle.child_engine.specs.Hosts.{Ledger}
use Rattle.program_lifecycle.specs.Logs.{closed_logs}
use Rattle.program_lifecycle.specs.declared.failures.Failures.{Failures}
use Rattle.program_lifecycle.proofs.Counts.{retold}
use Rattle.program_lifecycle.proofs.Reporting.{fresh_faults}
use Rattle.program_lifecycle.proofs.Asked.{asked_logs, asks_more}
use Rattle.program_lifecycle.proofs.Closes.{same_count, length_reported, few_logs, reported_as, lacked, log_opened, left_of, right_of}
use Rattle.program_lifecycle.specs.Streams.{log_state}
use Rattle.reviver_runner.specs.Ran.{ReviverReportsRun}
use Rattle.reviver_runner.proofs.RunSteps.{ran, close_may, log_may, may_as, lives_count, each_as, logged_as, why_refused, failed_is_refused, unopened, or_left, or_right}
use Rattle.reviver_runner.proofs.Records.{recorded_by}
use Rattle.reviver_runner.proofs.run.run_started.Goals as goal

pub run_opened-ended-requires-clause-may : goal.run_opened-ended-requires-clause-may
run_opened-ended-requires-clause-may g c = λ κs o. may_as g.H.EngineSource.Source.state g.H.EngineSink.Sink.state _ _ _ _ c.open_log-log.ensures.ledger c.requires.may

pub close_everything-waiting_failed-requires-clause-out : goal.close_everything-waiting_failed-requires-clause-out
close_everything-waiting_failed-requires-clause-out g c = λ κs o. close_may _ _ _ _ _ _ _ _ _ c.requires.ledger c.open_log-log.ensures.ledger c.run_opened-ended.ensures.ran.handed

pub close_everything-waiting_failed-requires-clause-logs : goal.close_everything-waiting_failed-requires-clause-logs
close_everything-waiting_failed-requires-clause-logs g c = λ κs o.
    log_may _ _ _ _ _ _ _ _ _ _ c.requires.ledger c.open_log-log.ensures.ledger c.run_opened-ended.ensures.ran.handed (same_count c.open_log-log.result.log c.run_opened-ended.result.log c.run_opened-ended.ensures.kept)

pub returns-clause-asked : goal.returns-clause-asked
returns-clause-asked g c =
    let opened = c.open_log-log.ensures in
    let has = c.run_opened-ended.ensures.ran in
    let closed = c.close_everything-waiting_failed.ensures in
    asks_more _ _ _ _ _ _ _ _ _ _ _ _ _ opened.asked has.asked closed.asked (ap (λ (b : Ledger). b.runs_out) opened.ledger)
    (ap (λ (b : Ledger). b.runs_out) closed.closes.logged ∙ closed.closes.closed.out)
    (asked_logs g.H.Log.Sink.state c.open_log-log.result.log c.run_opened-ended.result.log c.open_log-log.result.fault c.is_open_failure-2.result _ _ _
    opened.some opened.none c.run_opened-ended.ensures.kept has.logged.count c.is_open_failure-2.ensures c.either-3.ensures
    (ap (λ (b : Ledger). b.logs_out) closed.closes.logged ∙ closed.closes.closed.logs_out ∙ ap (λ (b : Ledger). b.logs_out) has.handed.others
    ∙ ap (λ (b : Ledger). b.logs_out) opened.ledger))
    c.is_open_failure.ensures

pub returns-clause-leaves : goal.returns-clause-leaves
returns-clause-leaves g c =
    let has = c.run_opened-ended.ensures.ran in
    let end = c.run_opened-ended.result.end in
    let closed = c.close_everything-waiting_failed.ensures.closes in
    let b0 = g.H.Host.ledger c.args.host.now in
    let b1 = g.H.Host.ledger c.open_log-log.new.host in
    let b4 = g.H.Host.ledger c.close_everything-waiting_failed.new.host in
    let many = lives_count g.H.EngineSource.Source.state g.H.EngineSink.Sink.state _ has.runs _ refl has.reported in
    let opened = log_state g.H.Log.Sink.state c.open_log-log.result.log in
    let log = log_state g.H.Log.Sink.state c.run_opened-ended.result.log in
    let same = same_count c.open_log-log.result.log c.run_opened-ended.result.log c.run_opened-ended.ensures.kept in
    let each = each_as b0 b1 has.runs _ c.open_log-log.ensures.ledger has.each in
    let failures : Failures = record {
      memory = c.either-2.result;
      iface_read = c.has_failed.result;
      iface_write = end.failed.output;
      engine_read = end.tally.engine_read;
      engine_write = end.tally.engine_write;
      engine_start = c.is_open_failure.result;
      log = c.either-3.result;
      engine_wait = c.close_everything-waiting_failed.result;
    } in
    let reported : ReviverReportsRun end.upper has.runs failures = record {
      iface_read = c.has_failed.ensures;
      engine_read = has.tallies.reads;
      engine_write = has.tallies.writes;
      iface_memory = λ m. left_of _ _ _ _ c.either.ensures c.has_lacked_memory.ensures (right_of _ _ _ c.either-2.ensures m);
      life_memory = λ m. sym has.tallies.memory ∙ right_of _ _ _ c.either.ensures (right_of _ _ _ c.either-2.ensures m);
    } in
    ran _ _ _ _ _ _ _ _ _ opened log _ _ _ _ _ _ _ _ _ _ _ _ _ _ _
    c.requires.ledger c.open_log-log.ensures.ledger (few_logs c.open_log-log.result.log) c.open_log-log.ensures.others c.open_log-log.ensures.cause
    has.handed _ closed.closed closed.closes
    closed.logged (length_reported g.H.Log.Sink.state c.run_opened-ended.result.log ∙ same)
    closed.log_counts closed.log_rises (fresh_faults _ _ _ c.open_log-log.ensures.fresh)
    (retold _ _ _ _ c.has_failed.ensures has.heard.did_arrive.count) has.up.count has.logged.count
    has.tallied.reads has.tallied.writes c.is_open_failure.ensures
    (c.either-3.ensures ∙ ap (λ (b : Bool). b || end.failed.log) c.is_open_failure-2.ensures)
    (λ runs_are logs_are out_is logs_out_is.
    let logged = logged_as _ _ b0.sinks_report _ b4.logs_out opened log c.open_log-log.ensures.fresh logs_out_is has.logged in
    let logs = logs_are ∙ reported_as g.H.Log.Sink.state c.run_opened-ended.result.log ∙ ap (λ (n : ℕ). closed_logs n log) (same ∙ sym logs_out_is) in
    record {
      upper = end.upper;
      runs = has.runs;
      events = has.events;
      heard = has.heard;
      reported = reported;
      memory =
          lacked _ _ _ _ _ _ _ _ c.either-2.ensures refl c.either.ensures c.has_lacked_memory.ensures has.tallies.memory
          (λ m. unopened c.open_log-log.result.fault end.start _ _ c.either-3.result _ _ b4.logs_out c.is_open_memory.ensures c.is_open_memory-2.ensures
          (λ z. logs_out_is ∙ c.open_log-log.ensures.none z)
          (asked_logs g.H.Log.Sink.state c.open_log-log.result.log c.run_opened-ended.result.log c.open_log-log.result.fault c.is_open_failure-2.result _ _ _
          c.open_log-log.ensures.some c.open_log-log.ensures.none c.run_opened-ended.ensures.kept has.logged.count c.is_open_failure-2.ensures c.either-3.ensures logs_out_is)
          has.refusal c.is_open_failure.ensures (or_cases _ _ (sym c.either-memory.ensures ∙ m)));
      each = each;
      refused = λ h. why_refused _ _ _ _ has.refusal h c.is_open_failure.ensures (λ m. or_left _ _ _ c.either-2.ensures (or_right _ _ _ c.either-memory.ensures (c.is_open_memory-2.ensures ∙ m)));
      failed_start = λ e. failed_is_refused _ _ _ has.refusal c.is_open_failure.ensures e;
      up = has.up;
      log = log;
      log_failed = _;
      logged = logged;
      failure = λ l. right_of _ _ _ c.either-3.ensures l;
      logs_told = logs;
      runs_reported = runs_are ∙ has.reported;
      runs_out = out_is ∙ many;
      recorded = recorded_by _ _ has.runs has.events b0 b4 failures log _ each reported logged (λ l. right_of _ _ _ c.either-3.ensures l) logs (runs_are ∙ has.reported);
    })
    (λ m l. log_opened c.open_log-log.result.log c.open_log-log.result.fault c.open_log-log.ensures.some
    (left_of _ _ _ _ c.either-3.ensures c.is_open_failure-2.ensures l) (left_of _ _ _ _ c.either-memory.ensures c.is_open_memory.ensures (left_of _ _ _ _ c.either-2.ensures refl m)))
