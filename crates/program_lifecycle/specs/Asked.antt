-- The engines that a run asks its host for, and the logs.
use Rattle.std.specs.Prelude.{◌≡◌, ℕ, suc, ◌+◌, if◌then◌else◌, Bool, false, List}
use Rattle.std.specs.Prelude.{[], ◌∷◌, drop, Option, Some, None, Result, Ok, Err}
use Rattle.event_pipe.specs.Counts.{CountsFault}
use Rattle.child_engine.specs.Asked.{Asked, with_many}
use Rattle.child_engine.specs.Hosts.{Ledger}
use Rattle.child_engine.specs.Places.{LogAsked, log_file}
use Rattle.child_engine.specs.declared.host.Faults.{Faults}
use Rattle.child_engine.specs.declared.host.HostFault.{HostFault}
use Rattle.child_engine.specs.declared.host.HostFault.TheVariants as faults
use Rattle.program_lifecycle.specs.declared.failures.Failures.{Failures}

-- how many engines a start asked its host for: none if there was no memory or no thread
abbrev pub engines_asked_by : {T : Type 0} → Result T Failures → ℕ
engines_asked_by (Ok run) = 1
engines_asked_by (Err failures) = if failures.engine_start then 1 else 0

-- how many logs an opening asked its host for, by why there is none: none if there was no memory
abbrev pub logs_asked_by : Option HostFault → ℕ
logs_asked_by (Some faults.NoMemory) = 0
logs_asked_by fault = 1

-- so many, and one more if that one failed
abbrev pub and_failed : Bool → ℕ → ℕ
and_failed failed n = if failed then suc n else n

-- how many logs were asked for: one if the log failed, whether it could be opened or not
abbrev pub logs_asked : Ledger → Failures → ℕ
logs_asked ledger failures = if failures.log then 1 else ledger.logs_out

-- Each engine that was asked for has these words: as many as the ledger counts that were handed out,
-- and one more if the start of one failed. Each log that was asked for is at this place: one, or none
-- if none is in the ledger and none failed.
pub record AsksFor (arguments : List (List ℕ)) (place : LogAsked) (before after : Asked) (ledger : Ledger)
    (failures : Failures) : Type 0 where
  pub engines : after.engines
      ≡ with_many (and_failed failures.engine_start ledger.runs_out) arguments before.engines
  pub logs : after.logs ≡ with_many (logs_asked ledger failures) place before.logs

-- The same, and the counts of faults show whether the start of an engine failed, or the log.
pub record AsksAsReported (arguments : List (List ℕ)) (place : LogAsked) (before after : Asked)
    (counts counts' : Faults) (ledger : Ledger) : Type 0 where
  pub failures : Failures
  pub starts : CountsFault counts.starts counts'.starts failures.engine_start
  pub logs : CountsFault counts.logs counts'.logs failures.log
  pub asks : AsksFor arguments place before after ledger failures

-- the first word, or an empty one
abbrev pub first_argument : List (List ℕ) → List ℕ
first_argument [] = []
first_argument (argument ∷ arguments) = argument

-- of words that are the log's name and then the engine's program and its arguments
abbrev pub AsksByArguments : List (List ℕ) → Asked → Asked → Faults → Faults → Ledger → Type 0
AsksByArguments arguments before after counts counts' ledger =
    AsksAsReported (drop 1 arguments) (log_file (first_argument arguments)) before after counts counts' ledger

-- No log was asked for, and engines with these arguments: as many as the ledger counts more, and one
-- more if that one failed.
pub record StartsEngines (arguments : List (List ℕ)) (before after : Asked) (ledger ledger' : Ledger)
    (failed : Bool) : Type 0 where
  pub more : ℕ
  pub engines : after.engines ≡ with_many (and_failed failed more) arguments before.engines
  pub logs : after.logs ≡ before.logs
  pub runs_out : ledger'.runs_out ≡ more + ledger.runs_out

-- The same after an engine that was started, and a log at this place was asked for.
pub record AsksMore (arguments : List (List ℕ)) (place : LogAsked) (before after : Asked)
    (ledger ledger' : Ledger) (failures : Failures) : Type 0 where
  pub more : ℕ
  pub engines :
      after.engines ≡ with_many (and_failed failures.engine_start more) arguments before.engines
  pub logs : after.logs ≡ with_many (logs_asked ledger' failures) place before.logs
  pub runs_out : ledger'.runs_out ≡ more + ledger.runs_out

-- No engine was asked for, and none failed to start; a log at this place was asked for.
pub record OpensLogs (place : LogAsked) (before after : Asked) (ledger ledger' : Ledger)
    (failures : Failures) : Type 0 where
  pub engines : after.engines ≡ before.engines
  pub logs : after.logs ≡ with_many (logs_asked ledger' failures) place before.logs
  pub runs_out : ledger'.runs_out ≡ ledger.runs_out
  pub started : failures.engine_start ≡ false
