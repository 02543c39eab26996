-- The counts of a host, and its reports on the parts that were closed.
use Rattle.std.specs.Prelude.{◌≡◌, ℕ, ◌+◌, ◌<◌, ◌≤◌, Bool, if◌then◌else◌, List, [], ◌∷◌}
use Rattle.std.specs.Prelude.{◌++◌, Option, Some, None, option_map, Result, IfErr, OnOk}
use Rattle.line_io.specs.Causes.{Rose, ErrorIsCounted}
use Rattle.line_io.specs.Source.{Supplied, Received}
use Rattle.child_engine.specs.declared.host.Faults.{Faults}
use Rattle.child_engine.specs.declared.host.HostFault.{HostFault}
use Rattle.child_engine.specs.declared.host.HostFault.TheVariants as faults

-- the report of a closed run: the bytes that its source gave and had left, and those that its sink took
pub record ShownRun : Type 0 where
  pub given : Option (List ℕ)
  pub left : Option (List ℕ)
  pub taken : Option (List ℕ)

abbrev pub shown_run : Supplied → Received → ShownRun
shown_run source sink = record { given = source.given; left = source.left; taken = sink.taken }

-- The reports of a host on its parts, how many runs and logs were handed out, and what those showed
-- that were closed, in the order of closing.
pub record Ledger : Type 0 where
  -- the bytes that each engine says, if the sources report what they give and have left
  pub says : Option (List ℕ)
  -- true if the engines' inputs and the logs report what they take
  pub sinks_report : Bool
  pub runs_out : ℕ
  pub logs_out : ℕ
  pub runs : List ShownRun
  pub logs : List (Option (List ℕ))

-- the ledger of a host that reports this much, and handed out nothing
abbrev pub unused_ledger : Option (List ℕ) → Bool → Ledger
unused_ledger says sinks_report = record {
  says = says;
  sinks_report = sinks_report;
  runs_out = 0;
  logs_out = 0;
  runs = [];
  logs = [];
}

-- nothing was handed out
abbrev pub HostIsUnused : Ledger → Type 0
HostIsUnused ledger = ledger ≡ unused_ledger ledger.says ledger.sinks_report

-- the ledger after a run or a log was handed out
abbrev pub with_run : Ledger → Ledger
with_run ledger = record ledger { runs_out = ledger.runs_out + 1 }

abbrev pub with_log : Ledger → Ledger
with_log ledger = record ledger { logs_out = ledger.logs_out + 1 }

-- one run was handed out, and nothing else
abbrev pub IsStarted : Ledger → Type 0
IsStarted ledger = ledger ≡ with_run (unused_ledger ledger.says ledger.sinks_report)

-- the ledger after one was closed
abbrev pub with_closed_run : Ledger → Supplied → Received → Ledger
with_closed_run ledger source sink = record ledger { runs = ledger.runs ++ shown_run source sink ∷ [] }

abbrev pub with_closed_log : Ledger → Received → Ledger
with_closed_log ledger log = record ledger { logs = ledger.logs ++ log.taken ∷ [] }

-- the report of a source that is handed out: it gave nothing, has left all that the
-- engine says, and never failed
abbrev pub fresh_source : Option (List ℕ) → Supplied
fresh_source says = record { given = option_map (λ _. []) says; left = says; faults = 0 }

-- the report of a sink or a log that is handed out: it took nothing, and never failed
abbrev pub fresh_sink : Bool → Received
fresh_sink sinks_report = record { taken = if sinks_report then Some [] else None; faults = 0 }

-- it was shown by a sink that was closed
abbrev pub WasSinkClosed : {K : Type 0} → (K → Received) → (K → Type 0) → Received → Type 0
WasSinkClosed {K} state is_sink_closed shown = (sink : K) × (state sink ≡ shown) × is_sink_closed sink

-- it was not closed
abbrev pub HoldsOn : {K : Type 0} → (K → Type 0) → K → Type 0
HoldsOn is_sink_closed sink = is_sink_closed sink → ⊥

-- The count does not fall, rose if the call failed, and is as before if it succeeded or if
-- there was no memory.
pub record FailsBy {T : Type 0} (before now : ℕ) (result : Result T HostFault) : Type 0 where
  pub later : before ≤ now
  pub failed : IfErr result (λ e. e ≡ faults.Failed → Rose before now)
  pub memory : IfErr result (λ e. e ≡ faults.NoMemory → now ≡ before)
  pub same : OnOk result (now ≡ before)

-- the count rose if and only if this part had failed
pub record RisesBy (part before now : ℕ) : Type 0 where
  pub later : before ≤ now
  pub same : part ≡ 0 → now ≡ before
  pub rose : 0 < part → Rose before now

pub record StartsBy {T : Type 0} (before now : Faults) (result : Result T HostFault) : Type 0 where
  pub starts : FailsBy before.starts now.starts result
  pub others : now ≡ record before { starts = now.starts }

pub record OpensBy {T : Type 0} (before now : Faults) (result : Result T HostFault) : Type 0 where
  pub logs : FailsBy before.logs now.logs result
  pub others : now ≡ record before { logs = now.logs }

-- the run's source and sink had these counts
pub record ClosesBy {T E : Type 0} (before now : Faults) (source sink : ℕ)
    (result : Result T E) : Type 0 where
  pub waits : ErrorIsCounted before.waits now.waits result
  pub reads : RisesBy source before.reads now.reads
  pub writes : RisesBy sink before.writes now.writes
  pub starts : now.starts ≡ before.starts
  pub logs : now.logs ≡ before.logs

pub record ClosesLogBy (before now : Faults) (log : ℕ) : Type 0 where
  pub logs : RisesBy log before.logs now.logs
  pub others : now ≡ record before { logs = now.logs }
