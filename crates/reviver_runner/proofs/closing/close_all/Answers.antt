use Rattle.std.proofs.Common.{◌∙◌, List, Bool, ◌||◌, refl, ap, sym, subst, arith}
use Rattle.child_engine.specs.Hosts.{Ledger, RisesBy}
use Rattle.reviver_runner.specs.declared.life.LifeRun.{LifeRun}
use Rattle.reviver_runner.specs.Closing.{run_source_faults, run_sink_faults}
use Rattle.reviver_runner.proofs.CloseSteps.{closed_count, closed_reported, all_closed, none_reported, fewer_processes, no_process}
use Rattle.reviver_runner.proofs.CountSteps.{cause_more, rises_both, rises_none, none_left}
use Rattle.reviver_runner.proofs.closing.close_all.Goals as goal

pub loop-run-preserved : goal.loop-run-preserved
loop-run-preserved g c =
    let was = c.loop-run.invariant in
    let ledger = c.close-waited.ensures.ledger in
    let cause = c.close-waited.ensures.cause in
    let first = c.in-Some.ensures.items in
    record {
      count = closed_count _ _ (g.H.EngineSource.Source.state c.in-Some.run'.source) (g.H.EngineSink.Sink.state c.in-Some.run'.sink) _ _ _ ledger first was.count;
      processes = fewer_processes _ _ _ _ _ _ was.processes c.in-Some-pop_front.ensures.items first;
      reported = closed_reported g.H.EngineSource.Source.state g.H.EngineSink.Sink.state _ _ _ _ c.in-Some.run' ledger first ∙ was.reported;
      out = ap (λ (b : Ledger). b.runs_out) ledger ∙ was.out;
      logs_out = ap (λ (b : Ledger). b.logs_out) ledger ∙ was.logs_out;
      ledger_logs = ap (λ (b : Ledger). b.logs) ledger ∙ was.ledger_logs;
      waits = cause_more _ _ _ _ _ c.close-waited.result was.waits cause.waits (c.either-failed.ensures ∙ ap (λ (b : Bool). c.loop-run.failed || b) c.is_err.ensures.value);
      reads = λ n x. was.reads n (subst (λ (l : List (LifeRun _ _)). RisesBy (run_source_faults g.H.EngineSource.Source.state l) (g.H.Host.faults c.loop-run.host).reads n) (sym first) (rises_both _ _ _ _ _ cause.reads x));
      writes = λ n x. was.writes n (subst (λ (l : List (LifeRun _ _)). RisesBy (run_sink_faults g.H.EngineSink.Sink.state l) (g.H.Host.faults c.loop-run.host).writes n) (sym first) (rises_both _ _ _ _ _ cause.writes x));
      starts = cause.starts ∙ was.starts;
      logs = cause.logs ∙ was.logs;
      asked = c.close-waited.ensures.asked ∙ was.asked;
    }

pub returns-clause-counts : goal.returns-clause-counts
returns-clause-counts g c =
    let was = c.loop-run.invariant in
    let none = none_left _ (c.in_default.ensures.items ∙ c.in_default.ensures.rest) in
    record {
      waits = was.waits;
      reads = was.reads _ (subst (λ (l : List (LifeRun _ _)). RisesBy (run_source_faults g.H.EngineSource.Source.state l) (g.H.Host.faults c.loop-run.host).reads (g.H.Host.faults c.loop-run.host).reads) (sym none) (rises_none _));
      writes = was.writes _ (subst (λ (l : List (LifeRun _ _)). RisesBy (run_sink_faults g.H.EngineSink.Sink.state l) (g.H.Host.faults c.loop-run.host).writes (g.H.Host.faults c.loop-run.host).writes) (sym none) (rises_none _));
      starts = was.starts;
      logs = was.logs;
    }

pub returns-clause-ledger : goal.returns-clause-ledger
returns-clause-ledger g c =
    let was = c.loop-run.invariant in
    let none = none_left _ (c.in_default.ensures.items ∙ c.in_default.ensures.rest) in
    record {
      all = all_closed _ _ _ none was.count;
      reported_are = none_reported g.H.EngineSource.Source.state g.H.EngineSink.Sink.state _ _ _ none was.reported;
      out = was.out;
      logs_out = was.logs_out;
      logs = was.ledger_logs;
    }

pub unreachable-requires : goal.unreachable-requires
unreachable-requires g c = no_process _ _ _ _ (none_left _ (c.in_default-pop_front.ensures.items ∙ c.in_default-pop_front.ensures.rest)) c.loop-run.invariant.processes c.in-Some.ensures.items

pub loop-run-init : goal.loop-run-init
loop-run-init g c = record {
  count = c.requires.out;
  processes = c.requires.processes;
  reported = refl;
  out = refl;
  logs_out = refl;
  ledger_logs = refl;
  waits = record { later = omega arith; rose = λ f. cc; same = λ _. refl };
  reads = λ n x. x;
  writes = λ n x. x;
  starts = refl;
  logs = refl;
  asked = refl;
}
