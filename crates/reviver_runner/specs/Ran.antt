-- The result of a run of all lives.
use Rattle.std.specs.Prelude.{◌≡◌, ◌⊎◌, ℕ, ◌<◌, ◌≤◌, List, [], map, length, Option}
use Rattle.std.specs.Prelude.{Some, None, IfSome, is_some, Bool, true, false}
use Rattle.std.specs.List.{list_any}
use Rattle.std.specs.VecDeque.{deque_len, deque_capacity}
use Rattle.line_io.specs.Event.{Event}
use Rattle.line_io.specs.Source.{Supplied, Received}
use Rattle.event_pipe.specs.declared.message.Peer.TheVariants as peers
use Rattle.event_pipe.specs.declared.reader.ReadEnd.{ReadEnd}
use Rattle.event_pipe.specs.Arrivals.{Arrived, is_read_fault}
use Rattle.event_pipe.specs.Counts.{CountsFault}
use Rattle.reviver_runner.specs.Messages.{events_sent, events_taken}
use Rattle.event_pipe.specs.Events.{sent_by}
use Rattle.child_engine.specs.Hosts.{Ledger}
use Rattle.child_engine.specs.declared.host.Faults.{Faults}
use Rattle.child_engine.specs.declared.host.HostFault.{HostFault}
use Rattle.engine_revival.specs.Script.{AllMayHappen, state_behind, revival_script}
use Rattle.engine_revival.specs.Steps.{opening_revival}
use Rattle.engine_revival.specs.Talk.{IsAlwaysLawful}
use Rattle.program_lifecycle.specs.Asked.{StartsEngines}
use Rattle.program_lifecycle.specs.Early.{no_failure}
use Rattle.program_lifecycle.specs.Logs.{is_failed, fresh_log, closed_logs}
use Rattle.program_lifecycle.specs.Readers.{lacked_memory}
use Rattle.program_lifecycle.specs.Outside.{Outside, AreReported, HasNoLog}
use Rattle.program_lifecycle.specs.declared.failures.Failures.{Failures}
use Rattle.program_lifecycle.specs.Took.{LogTook}
use Rattle.reviver_runner.specs.declared.life.LifeRun.{LifeRun}
use Rattle.reviver_runner.specs.Drained.{InterfaceDrained}
use Rattle.reviver_runner.specs.Looped.{LoopState}
use Rattle.reviver_runner.specs.Played.{revival_lines_up, as_long, reported_of, has_refusal}
use Rattle.reviver_runner.specs.declared.lives.AllRuns.{AllRuns}
use Rattle.reviver_runner.specs.declared.lives.LivesTally.{LivesTally}
use Rattle.reviver_runner.specs.declared.parts.ReviverParts.{ReviverParts}
use Rattle.reviver_runner.specs.declared.outcome.LivesEnd.{LivesEnd}
use Rattle.reviver_runner.specs.Lives.{IsBegun, HasLived, HostShown, Life, AreLives}
use Rattle.reviver_runner.specs.Lives.{Tallies, AreTallied, life_events, shown_runs_of_lives}
use Rattle.reviver_runner.specs.Lives.{to_none, to_lives, empty_tally, none_failed}
use Rattle.reviver_runner.specs.Closing.{shown_runs}
use Rattle.reviver_runner.specs.Parts.{ReviverPartsAreReady}
use Rattle.reviver_runner.specs.Recorded.{ReviverRecorded, ReviverRunIsWhole}

-- Runs were handed out, one for each of these lives that have ended, and the last
-- start may have been refused.
pub record HandsOut (lives ended : ℕ) (ledger ledger' : Ledger) (counts counts' : Faults)
    (refused : Option HostFault) : Type 0 where
  pub out : ledger'.runs_out ≡ ended
  pub some : 1 ≤ ended
  pub few : ended ≤ lives
  pub others : ledger' ≡ record ledger { runs_out = ledger'.runs_out }
  pub starts : CountsFault counts.starts counts'.starts (is_failed refused)
  pub other_counts : counts' ≡ record counts { starts = counts'.starts }

-- the run of the first life is there, and was not touched yet
abbrev pub HasFirst : {S K : Type 0} → (S → Supplied) → (K → Received) → Option (List ℕ) → Bool
    → Option (LifeRun S K) → Type 0
HasFirst source sink says sinks_report (Some run) =
    IsBegun says sinks_report (source run.source) (sink run.sink) false []
HasFirst source sink says sinks_report None = ⊥

-- no life has ended, and there is room for nine
pub record ReviverMayGoOn {S K : Type 0} (ledger : Ledger) (runs : AllRuns S K) : Type 0 where
  pub arguments : 0 < length runs.arguments.items
  pub none : deque_len runs.ended ≡ 0
  pub space : 9 ≤ deque_capacity runs.ended
  pub tally : runs.tally ≡ empty_tally
  pub out : ledger.runs_out ≡ 1

-- the same, and the run of the first life is there
pub record MayRun {S K : Type 0} (source : S → Supplied) (sink : K → Received) (ledger : Ledger)
    (runs : AllRuns S K) : Type 0 where
  pub may : ReviverMayGoOn ledger runs
  pub first : HasFirst source sink ledger.says ledger.sinks_report runs.first

-- The first of so many lives, nine at most, goes on, nothing was sent or taken yet, no sink has
-- failed, and there is room for what all of them are waited for by.
pub record MayGo {L P : Type 0} (lives : ℕ) (parts : ReviverParts L P) : Type 0 where
  pub some : 1 ≤ lives
  pub few : lives ≤ 9
  pub begins : parts.looping.revival.state ≡ opening_revival lives
  pub ready : ReviverPartsAreReady parts
  pub unsent : events_sent parts.to ≡ []
  pub untaken : events_taken parts.looping.from ≡ []
  pub unfailed : parts.looping.failed ≡ none_failed
  pub process : deque_len parts.processes ≡ 1
  pub room : 10 ≤ deque_capacity parts.processes

-- The result of the lives, once none follows: why no other was started, if one might have begun, and
-- what the host was asked.
pub record RanLives {S K : Type 0} (source : S → Supplied) (sink : K → Received)
    (arguments : List (List ℕ)) (host host' : HostShown) (before after : LoopState) (sent : List Event)
    (ended : List (LifeRun S K)) (tally : LivesTally) (refused : Option HostFault) : Type 0 where
  pub begun : after.state.begun ≡ length ended
  pub lived : HasLived source sink host.ledger.says host.ledger.sinks_report before after sent ended tally []
      (is_some refused)
  pub handed : HandsOut before.state.lives (length ended) host.ledger host'.ledger host.counts
      host'.counts refused
  pub asked : StartsEngines arguments host.asked host'.asked host.ledger host'.ledger (is_failed refused)

-- the lives, and then the interface until it has ended
pub record RanAll {S K : Type 0} (source : S → Supplied) (sink : K → Received)
    (arguments : List (List ℕ)) (host host' : HostShown) (before after : LoopState) (sent : List Event)
    (ended : List (LifeRun S K)) (tally : LivesTally) (refused : Option HostFault) : Type 0 where
  pub last : LoopState
  pub lives : RanLives source sink arguments host host' before last sent ended tally refused
  pub drained : InterfaceDrained last after

-- the outcome of the readers and of the writes to each life is reported
pub record ReviverReportsRun (upper : ReadEnd) (lives : List Life) (failures : Failures) : Type 0 where
  pub iface_read : failures.iface_read ≡ is_read_fault upper
  pub engine_read : failures.engine_read ≡ list_any (λ l. is_read_fault l.end) lives
  pub engine_write : failures.engine_write ≡ list_any (λ l. l.broken) lives
  pub iface_memory : failures.memory ≡ false → lacked_memory upper ≡ false
  pub life_memory : failures.memory ≡ false → list_any (λ l. lacked_memory l.end) lives ≡ false

-- why a run that was made reports no memory: the interface's reader or one of a life had none for a
-- line, or there was none to open the log, or none to start a life again
abbrev pub ReviverLackedMemory : Ledger → ReadEnd → List Life → List Event → Failures → Type 0
ReviverLackedMemory ledger upper lives events failures =
    (lacked_memory upper ≡ true)
    ⊎ ((list_any (λ l. lacked_memory l.end) lives ≡ true)
    ⊎ (((ledger.logs_out ≡ 0) × (failures.log ≡ false))
    ⊎ ((has_refusal events ≡ true) × (failures.engine_start ≡ false))))

-- The revival of so many lives heard these events, in the order in which they came. Its
-- orders are what arrived of the interface, without long lines; and of each life there are
-- its lines, and a mark of its end.
pub record RevivalHeard (lives : ℕ) (input input' : Supplied) (upper : ReadEnd) (runs : List Life)
    (events : List Event) : Type 0 where
  pub may : AllMayHappen (opening_revival lives) events
  -- and the talk that they bring about is lawful up to each of them
  pub lawful : IsAlwaysLawful lives events
  pub arrived : List Event
  pub did_arrive : Arrived peers.Iface input input' arrived upper
  pub orders : sent_by peers.Iface events ≡ reported_of arrived
  pub marks : map as_long (sent_by peers.Engine events) ≡ life_events runs
  -- the text to each life, and after the last one nothing is written
  pub texts : to_lives to_none (opening_revival lives) events
      ≡ record { ended = map (λ l. l.text) runs; present = [] }
  pub begun : (state_behind (opening_revival lives) events).begun ≡ length runs

-- A run of so many lives whose runs and log are not closed yet: what the revival heard of both
-- sides, what each life shows, and what was offered to the interface and to the log.
pub record HasRun {S K : Type 0} (source : S → Supplied) (sink : K → Received) (lives : ℕ)
    (arguments : List (List ℕ)) (input input' : Supplied) (output output' log log' : Received)
    (host host' : HostShown) (ended : List (LifeRun S K)) (end : LivesEnd) : Type 0 where
  pub runs : List Life
  pub events : List Event
  pub heard : RevivalHeard lives input input' end.upper runs events
  pub up : LogTook (revival_lines_up (opening_revival lives) events) end.failed.output output output'
  pub logged : LogTook (revival_script lives events) end.failed.log log log'
  pub refusal : has_refusal events ≡ is_some end.start
  pub each : AreLives host.ledger.says host.ledger.sinks_report runs
  pub reported : shown_runs source sink ended ≡ shown_runs_of_lives runs
  pub tallies : Tallies runs end.tally
  pub tallied : AreTallied source sink ended end.tally
  pub handed :
      HandsOut lives (length ended) host.ledger host'.ledger host.counts host'.counts end.start
  pub asked :
      StartsEngines arguments host.asked host'.asked host.ledger host'.ledger (is_failed end.start)

-- One run of the lives: the log is the script of the events, up went what is given for them, and to
-- each life what is written to it. A sink that failed took a prefix of that.
pub record ReviverRunIs (lives : ℕ) (before after : Outside) (failures : Failures) : Type 0 where
  pub upper : ReadEnd
  pub runs : List Life
  pub events : List Event
  pub heard : RevivalHeard lives before.input after.input upper runs events
  pub reported : ReviverReportsRun upper runs failures
  pub memory : failures.memory ≡ true → ReviverLackedMemory after.ledger upper runs events failures
  pub each : AreLives before.ledger.says before.ledger.sinks_report runs
  pub refused : has_refusal events ≡ true
      → (failures.engine_start ≡ true) ⊎ (failures.memory ≡ true)
  -- A start that failed stands in the log. So it is that of a later life: if the first start
  -- fails, no run is made.
  pub failed_start : failures.engine_start ≡ true → has_refusal events ≡ true
  pub up : LogTook (revival_lines_up (opening_revival lives) events) failures.iface_write before.output after.output
  -- the log, which was fresh, and is in the ledger as it is at the end
  pub log : Received
  pub log_failed : Bool
  pub logged : LogTook (revival_script lives events) log_failed
      (fresh_log before.ledger.sinks_report after.ledger.logs_out) log
  pub failure : failures.log ≡ false → log_failed ≡ false
  pub logs_told : after.ledger.logs ≡ closed_logs after.ledger.logs_out log
  -- so is each run
  pub runs_reported : after.ledger.runs ≡ shown_runs_of_lives runs
  pub runs_out : after.ledger.runs_out ≡ length runs
  -- the ledger's record of these lives and events
  pub recorded : ReviverRecorded lives runs events before.ledger after.ledger failures

-- The result of a run, whether an engine was started or not: each count of faults rose if its failure
-- is reported, and is as before else; each run that was handed out is closed, of so many lives at
-- most, and the log if one was.
pub record ReviverLeaves (lives : ℕ) (before after : Outside) (failures : Failures) : Type 0 where
  pub reported : AreReported before after failures
  pub runs : length after.ledger.runs ≡ after.ledger.runs_out
  pub logs : length after.ledger.logs ≡ after.ledger.logs_out
  pub few_runs : after.ledger.runs_out ≤ lives
  pub few_logs : after.ledger.logs_out ≤ 1
  pub some_run : failures.memory ≡ false → failures.engine_start ≡ false → 0 < after.ledger.runs_out
  pub some_log : failures.memory ≡ false → failures.log ≡ false → 0 < after.ledger.runs_out
      → after.ledger.logs_out ≡ 1
  -- if no engine was started, nothing was read or written
  pub nothing : after.ledger.runs_out ≡ 0
      → (after.input ≡ before.input) × (after.output ≡ before.output)
  -- no run, no log
  pub unlogged : after.ledger.runs_out ≡ 0 → HasNoLog after.ledger failures
  pub revived : 0 < after.ledger.runs_out → ReviverRunIs lives before after failures
  -- if nothing failed, over a host that reports its bytes
  pub whole : failures ≡ no_failure → before.ledger.sinks_report ≡ true
      → IfSome before.ledger.says (λ bytes. ReviverRunIsWhole lives bytes before after)
