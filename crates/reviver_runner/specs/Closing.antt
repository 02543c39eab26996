-- The changes by closing runs, one after the other.
use Rattle.std.specs.Prelude.{◌≡◌, ℕ, ◌+◌, List, [], ◌∷◌, ◌++◌, map, length, Bool, Option}
use Rattle.line_io.specs.Source.{Supplied, Received}
use Rattle.event_pipe.specs.Counts.{CountsFault}
use Rattle.child_engine.specs.Hosts.{Ledger, ShownRun, RisesBy, shown_run}
use Rattle.child_engine.specs.declared.host.Faults.{Faults}
use Rattle.reviver_runner.specs.declared.life.LifeRun.{LifeRun}

-- how often the runs' sources failed, and their sinks
abbrev pub run_source_faults : {S K : Type 0} → (S → Supplied) → List (LifeRun S K) → ℕ
run_source_faults source [] = 0
run_source_faults source (run ∷ runs) = (source run.source).faults + run_source_faults source runs

abbrev pub run_sink_faults : {S K : Type 0} → (K → Received) → List (LifeRun S K) → ℕ
run_sink_faults sink [] = 0
run_sink_faults sink (run ∷ runs) = (sink run.sink).faults + run_sink_faults sink runs

-- the runs as the host is shown them
abbrev pub shown_runs : {S K : Type 0} → (S → Supplied) → (K → Received) → List (LifeRun S K)
    → List ShownRun
shown_runs source sink runs = map (λ run. shown_run (source run.source) (sink run.sink)) runs

-- runs were closed whose sources and sinks had failed so often
pub record ClosesAll (before now : Faults) (source sink : ℕ) (failed : Bool) : Type 0 where
  pub waits : CountsFault before.waits now.waits failed
  pub reads : RisesBy source before.reads now.reads
  pub writes : RisesBy sink before.writes now.writes
  pub starts : now.starts ≡ before.starts
  pub logs : now.logs ≡ before.logs

-- each run that was handed out is closed, and these were closed last
pub record HasClosed (before now : Ledger) (reported : List ShownRun) : Type 0 where
  pub all : length now.runs ≡ now.runs_out
  pub reported_are : now.runs ≡ before.runs ++ reported
  pub out : now.runs_out ≡ before.runs_out
  pub logs_out : now.logs_out ≡ before.logs_out
  pub logs : now.logs ≡ before.logs

-- the runs were closed, and then the log, if there is one
pub record ClosesEverything (before now : Ledger) (counts counts' : Faults) (reported : List ShownRun)
    (source sink log : ℕ) (logs : List (Option (List ℕ))) (failed : Bool) : Type 0 where
  pub between : Ledger
  pub between_counts : Faults
  pub closed : HasClosed before between reported
  pub closes : ClosesAll counts between_counts source sink failed
  pub logged : now ≡ record between { logs = between.logs ++ logs }
  pub log_rises : RisesBy log between_counts.logs counts'.logs
  pub log_counts : counts' ≡ record between_counts { logs = counts'.logs }
