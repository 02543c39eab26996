-- The engines that a run asks its host for, and the logs, from its parts.
use Rattle.std.proofs.Common.{◌≡◌, ◌∙◌, ◌⊎◌, inl, inr, ℕ, zero, suc, ◌+◌, ◌||◌, Bool, true, false, refl, sym, ap, subst, arith, List, Option, Some, None, option_map, ◌++◌, [], ◌∷◌, is_some, if◌then◌else◌}
use Rattle.line_io.specs.Causes.{Rose}
use Rattle.line_io.specs.Source.{Received}
use Rattle.event_pipe.specs.Counts.{CountsFault}
use Rattle.program_lifecycle.specs.Streams.{log_state}
use Rattle.child_engine.specs.Asked.{Asked, with_many, and_engines, and_logs}
use Rattle.child_engine.specs.Hosts.{Ledger, HostIsUnused, IsStarted, with_run}
use Rattle.child_engine.specs.Places.{LogAsked, log_file}
use Rattle.child_engine.specs.declared.host.Faults.{Faults}
use Rattle.child_engine.specs.declared.host.HostFault.{HostFault}
use Rattle.child_engine.specs.declared.host.HostFault.TheVariants as faults
use Rattle.program_lifecycle.specs.Asked.{AsksFor, AsksAsReported, AsksByArguments, StartsEngines, AsksMore, OpensLogs, and_failed, logs_asked, logs_asked_by}
use Rattle.program_lifecycle.specs.Early.{FailuresAreEarly, no_failure, only_memory, only_start}
use Rattle.program_lifecycle.specs.Logs.{is_failed, is_no_memory, log_count}
use Rattle.program_lifecycle.specs.declared.failures.Failures.{Failures}

-- as often, and then so often again
many_more : {T : Type 0} (n k : ℕ) (one : T) (kept : Option (List T)) → with_many n one (with_many k one kept) ≡ with_many (n + k) one kept
many_more zero k one kept = let e : k ≡ 0 + k = omega arith in ap (λ (m : ℕ). with_many m one kept) e
many_more {T} (suc n) k one kept =
    let e : suc (n + k) ≡ suc n + k = omega arith in
    ap (option_map (λ (all : List T). all ++ one ∷ [])) (many_more n k one kept) ∙ ap (λ (m : ℕ). with_many m one kept) e

failed_more : (failed : Bool) (n k : ℕ) → and_failed failed n + k ≡ and_failed failed (n + k)
failed_more true n k = omega arith
failed_more false n k = refl

-- an opening asks for a log at this place, except if there is no memory
pub log_asked : (fault : HostFault) (place : LogAsked) (a0 a1 : Asked) → (fault ≡ faults.Failed → a1 ≡ and_logs 1 place a0) → (fault ≡ faults.NoMemory → a1 ≡ a0)
    → a1 ≡ and_logs (logs_asked_by (Some fault)) place a0
log_asked faults.Failed place a0 a1 failed memory = failed refl
log_asked faults.NoMemory place a0 a1 failed memory = memory refl

-- A log that is missing does not fail.
none_fails : {L : Type 0} (state : L → Received) (log log' : Option L) (done : Bool) → log_count log ≡ 0 → is_some log' ≡ is_some log
    → CountsFault (log_state state log).faults (log_state state log').faults done → done ≡ false
none_fails state None None true none kept t = let r : Rose 0 0 = t.rose refl in absurd (omega (arith, r))
none_fails state None None false none kept t = refl
none_fails state None (Some log') done none kept t = cc
none_fails state (Some log) log' done none kept t = cc

-- how many logs were asked for, of a log that could not be opened or failed later
pub asked_logs : {L : Type 0} (state : L → Received) (log log' : Option L) (fault : Option HostFault) (open_failed done failed : Bool) (n : ℕ)
    → (fault ≡ None → log_count log ≡ 1) → (is_no_memory fault ≡ true → log_count log ≡ 0) → is_some log' ≡ is_some log
    → CountsFault (log_state state log).faults (log_state state log').faults done
    → open_failed ≡ is_failed fault → failed ≡ (open_failed || done) → n ≡ log_count log
    → logs_asked_by fault ≡ (if failed then 1 else n)
asked_logs state log log' None false true true n some none kept t o f m = refl
asked_logs state log log' None false false false n some none kept t o f m = sym (m ∙ some refl)
asked_logs state log log' (Some faults.Failed) true done true n some none kept t o f m = refl
asked_logs state log log' (Some faults.NoMemory) false done failed n some none kept t o f m =
    let whole : failed ≡ false = f ∙ none_fails state log log' done (none refl) kept t in
    subst (λ (b : Bool). 0 ≡ (if b then 1 else n)) (sym whole) (sym (m ∙ none refl))
asked_logs state log log' None true done failed n some none kept t o f m = cc
asked_logs state log log' None false true false n some none kept t o f m = cc
asked_logs state log log' None false false true n some none kept t o f m = cc
asked_logs state log log' (Some faults.Failed) false done failed n some none kept t o f m = cc
asked_logs state log log' (Some faults.Failed) true done false n some none kept t o f m = cc
asked_logs state log log' (Some faults.NoMemory) true done failed n some none kept t o f m = cc

-- one engine was started, and so many logs were asked for
pub opens_logs : (place : LogAsked) (n : ℕ) (a0 a1 a2 a3 : Asked) (b0 b3 : Ledger) (failures : Failures) → IsStarted b0
    → a1 ≡ and_logs n place a0 → a2 ≡ a1 → a3 ≡ a2 → b3.runs_out ≡ 1 → n ≡ logs_asked b3 failures → failures.engine_start ≡ false → OpensLogs place a0 a3 b0 b3 failures
opens_logs place n a0 a1 a2 a3 b0 b3 failures started opened closed closed_log runs logs fine =
    let all = closed_log ∙ closed ∙ opened in
    record {
      engines = ap (λ (a : Asked). a.engines) all;
      logs = ap (λ (a : Asked). a.logs) all ∙ ap (λ (m : ℕ). with_many m place a0.logs) logs;
      runs_out = runs ∙ sym (ap (λ (b : Ledger). b.runs_out) started);
      started = fine;
    }

pub asks_one : (arguments : List (List ℕ)) (place : LogAsked) (a0 a1 a2 : Asked) (b0 b1 b2 : Ledger) (failures : Failures) → HostIsUnused b0 → b1 ≡ with_run b0
    → a1 ≡ and_engines 1 arguments a0 → OpensLogs place a1 a2 b1 b2 failures → AsksFor arguments place a0 a2 b2 failures
asks_one arguments place a0 a1 a2 b0 b1 b2 failures unused run started opens =
    let one : b2.runs_out ≡ 1 = opens.runs_out ∙ ap (λ (b : Ledger). b.runs_out) run ∙ ap (λ (b : Ledger). b.runs_out + 1) unused in
    let all : and_failed failures.engine_start b2.runs_out ≡ 1 = ap (λ (f : Bool). and_failed f b2.runs_out) opens.started ∙ one in
    record {
      engines = opens.engines ∙ ap (λ (a : Asked). a.engines) started ∙ ap (λ (m : ℕ). with_many m arguments a0.engines) (sym all);
      logs = opens.logs ∙ ap (λ (a : Asked). with_many (logs_asked b2 failures) place a.logs) started;
    }

-- none was started, since there was no memory or that failed
early_logs : (failures : Failures) → (failures ≡ only_memory) ⊎ (failures ≡ only_start) → failures.log ≡ false
early_logs failures (inl e) = ap (λ (f : Failures). f.log) e
early_logs failures (inr e) = ap (λ (f : Failures). f.log) e

unstarted_as : (failed : Bool) (n : ℕ) → n ≡ 0 → and_failed failed n ≡ (if failed then 1 else 0)
unstarted_as true n e = ap suc e
unstarted_as false n e = e

pub asks_early : (arguments : List (List ℕ)) (place : LogAsked) (a0 a1 : Asked) (b0 b1 : Ledger) (f0 f1 : Faults) (failures : Failures) → HostIsUnused b0 → b1 ≡ b0
    → a1 ≡ and_engines (if failures.engine_start then 1 else 0) arguments a0 → FailuresAreEarly f0 f1 failures → AsksFor arguments place a0 a1 b1 failures
asks_early arguments place a0 a1 b0 b1 f0 f1 failures unused same kept early =
    let all = same ∙ unused in
    let none : logs_asked b1 failures ≡ 0 = ap (λ (f : Bool). if f then 1 else b1.logs_out) (early_logs failures early.why) ∙ ap (λ (b : Ledger). b.logs_out) all in
    record {
      engines = ap (λ (a : Asked). a.engines) kept
          ∙ ap (λ (m : ℕ). with_many m arguments a0.engines) (sym (unstarted_as failures.engine_start b1.runs_out (ap (λ (b : Ledger). b.runs_out) all)));
      logs = ap (λ (a : Asked). a.logs) kept ∙ ap (λ (m : ℕ). with_many m place a0.logs) (sym none);
    }

-- nothing was asked for
asks_nothing : (arguments : List (List ℕ)) (place : LogAsked) (a : Asked) (b : Ledger) (failures : Failures) → HostIsUnused b → failures.engine_start ≡ false → failures.log ≡ false
    → AsksFor arguments place a a b failures
asks_nothing arguments place a b failures unused fine whole =
    let engines : and_failed failures.engine_start b.runs_out ≡ 0 = ap (λ (f : Bool). and_failed f b.runs_out) fine ∙ ap (λ (b : Ledger). b.runs_out) unused in
    let logs : logs_asked b failures ≡ 0 = ap (λ (f : Bool). if f then 1 else b.logs_out) whole ∙ ap (λ (b : Ledger). b.logs_out) unused in
    record {
      engines = ap (λ (m : ℕ). with_many m arguments a.engines) (sym engines);
      logs = ap (λ (m : ℕ). with_many m place a.logs) (sym logs);
    }

-- there was no memory for a run
pub asks_none : (arguments : List (List ℕ)) (place : LogAsked) (a : Asked) (b : Ledger) (failures : Failures) → HostIsUnused b → failures ≡ only_memory
    → AsksFor arguments place a a b failures
asks_none arguments place a b failures unused e =
    asks_nothing arguments place a b failures unused (ap (λ (f : Failures). f.engine_start) e) (ap (λ (f : Failures). f.log) e)

-- the words asked for no run
pub asks_refused : (arguments : List (List ℕ)) (place : LogAsked) (a : Asked) (f : Faults) (b : Ledger) → HostIsUnused b → AsksAsReported arguments place a a f f b
asks_refused arguments place a f b unused =
    record {
      failures = no_failure;
      starts = record { later = omega arith; rose = λ e. cc; same = λ _. refl };
      logs = record { later = omega arith; rose = λ e. cc; same = λ _. refl };
      asks = asks_nothing arguments place a b no_failure unused refl refl;
    }

pub asks_as : (arguments words' : List (List ℕ)) (place place' : LogAsked) (a0 a1 : Asked) (b : Ledger) (failures : Failures) → arguments ≡ words' → place ≡ place'
    → AsksFor arguments place a0 a1 b failures → AsksFor words' place' a0 a1 b failures
asks_as arguments words' place place' a0 a1 b failures e f asks =
    record {
      engines = asks.engines ∙ ap (λ (x : List (List ℕ)). with_many (and_failed failures.engine_start b.runs_out) x a0.engines) e;
      logs = asks.logs ∙ ap (λ (x : LogAsked). with_many (logs_asked b failures) x a0.logs) f;
    }

-- as the counts show
pub asks_reported : (arguments words' : List (List ℕ)) (place place' : LogAsked) (a0 a1 : Asked) (f0 f1 : Faults) (b : Ledger) (failures : Failures) → arguments ≡ words' → place ≡ place'
    → CountsFault f0.starts f1.starts failures.engine_start → CountsFault f0.logs f1.logs failures.log
    → AsksFor arguments place a0 a1 b failures → AsksAsReported words' place' a0 a1 f0 f1 b
asks_reported arguments words' place place' a0 a1 f0 f1 b failures e f starts logs asks =
    record { failures = failures; starts = starts; logs = logs; asks = asks_as arguments words' place place' a0 a1 b failures e f asks }

pub asks_by : (all arguments : List (List ℕ)) (name : List ℕ) (a0 a1 : Asked) (f0 f1 : Faults) (b : Ledger) → all ≡ name ∷ arguments
    → AsksAsReported arguments (log_file name) a0 a1 f0 f1 b → AsksByArguments all a0 a1 f0 f1 b
asks_by all arguments name a0 a1 f0 f1 b e asks = subst (λ (x : List (List ℕ)). AsksByArguments x a0 a1 f0 f1 b) (sym e) asks

-- MANY ENGINES

pub starts_none : (arguments : List (List ℕ)) (a0 a1 : Asked) (b0 b1 : Ledger) → a1 ≡ a0 → b1 ≡ b0 → StartsEngines arguments a0 a1 b0 b1 false
starts_none arguments a0 a1 b0 b1 kept same =
    let out = ap (λ (b : Ledger). b.runs_out) same in
    record {
      more = 0;
      engines = ap (λ (a : Asked). a.engines) kept;
      logs = ap (λ (a : Asked). a.logs) kept;
      runs_out = omega (arith, out);
    }

pub starts_one : (arguments : List (List ℕ)) (a0 a1 : Asked) (b0 b1 : Ledger) → a1 ≡ and_engines 1 arguments a0 → b1 ≡ with_run b0 → StartsEngines arguments a0 a1 b0 b1 false
starts_one arguments a0 a1 b0 b1 started run =
    let out = ap (λ (b : Ledger). b.runs_out) run in
    record {
      more = 1;
      engines = ap (λ (a : Asked). a.engines) started;
      logs = ap (λ (a : Asked). a.logs) started;
      runs_out = omega (arith, out);
    }

-- the start of one failed, or there was no memory for it
pub starts_failed : (fault : HostFault) (arguments : List (List ℕ)) (a0 a1 : Asked) (b0 b1 : Ledger) → (fault ≡ faults.Failed → a1 ≡ and_engines 1 arguments a0) → (fault ≡ faults.NoMemory → a1 ≡ a0)
    → b1 ≡ b0 → StartsEngines arguments a0 a1 b0 b1 (is_failed (Some fault))
starts_failed faults.Failed arguments a0 a1 b0 b1 failed memory same =
    let out = ap (λ (b : Ledger). b.runs_out) same in
    let kept = failed refl in
    record {
      more = 0;
      engines = ap (λ (a : Asked). a.engines) kept;
      logs = ap (λ (a : Asked). a.logs) kept;
      runs_out = omega (arith, out);
    }
starts_failed faults.NoMemory arguments a0 a1 b0 b1 failed memory same = starts_none arguments a0 a1 b0 b1 (memory refl) same

pub starts_both : (arguments : List (List ℕ)) (a0 a1 a2 : Asked) (b0 b1 b2 : Ledger) (failed : Bool) → StartsEngines arguments a0 a1 b0 b1 false → StartsEngines arguments a1 a2 b1 b2 failed
    → StartsEngines arguments a0 a2 b0 b2 failed
starts_both arguments a0 a1 a2 b0 b1 b2 failed x y =
    let e = x.runs_out in
    let f = y.runs_out in
    record {
      more = y.more + x.more;
      engines = y.engines ∙ ap (with_many (and_failed failed y.more) arguments) x.engines ∙ many_more (and_failed failed y.more) x.more arguments a0.engines
          ∙ ap (λ (m : ℕ). with_many m arguments a0.engines) (failed_more failed y.more x.more);
      logs = y.logs ∙ x.logs;
      runs_out = omega (arith, e, f);
    }

-- logs were asked for first, and what was handed out was closed then
pub asks_more : (arguments : List (List ℕ)) (place : LogAsked) (n : ℕ) (a0 a1 a2 a3 : Asked) (b0 b1 b2 b3 : Ledger) (failed : Bool) (failures : Failures)
    → a1 ≡ and_logs n place a0 → StartsEngines arguments a1 a2 b1 b2 failed → a3 ≡ a2 → b1.runs_out ≡ b0.runs_out → b3.runs_out ≡ b2.runs_out
    → n ≡ logs_asked b3 failures → failures.engine_start ≡ failed → AsksMore arguments place a0 a3 b0 b3 failures
asks_more arguments place n a0 a1 a2 a3 b0 b1 b2 b3 failed failures opened starts closed first last logs reported =
    let out = starts.runs_out in
    record {
      more = starts.more;
      engines = ap (λ (a : Asked). a.engines) closed ∙ starts.engines ∙ ap (λ (a : Asked). with_many (and_failed failed starts.more) arguments a.engines) opened
          ∙ ap (λ (f : Bool). with_many (and_failed f starts.more) arguments a0.engines) (sym reported);
      logs = ap (λ (a : Asked). a.logs) closed ∙ starts.logs ∙ ap (λ (a : Asked). a.logs) opened ∙ ap (λ (m : ℕ). with_many m place a0.logs) logs;
      runs_out = omega (arith, out, first, last);
    }

pub asks_many : (arguments : List (List ℕ)) (place : LogAsked) (a0 a1 a2 : Asked) (b0 b1 b2 : Ledger) (failures : Failures) → HostIsUnused b0 → b1 ≡ with_run b0
    → a1 ≡ and_engines 1 arguments a0 → AsksMore arguments place a1 a2 b1 b2 failures → AsksFor arguments place a0 a2 b2 failures
asks_many arguments place a0 a1 a2 b0 b1 b2 failures unused run started asks =
    let one : b1.runs_out ≡ 1 = ap (λ (b : Ledger). b.runs_out) run ∙ ap (λ (b : Ledger). b.runs_out + 1) unused in
    let out = asks.runs_out in
    let all : asks.more + 1 ≡ b2.runs_out = omega (arith, out, one) in
    record {
      engines = asks.engines ∙ ap (λ (a : Asked). with_many (and_failed failures.engine_start asks.more) arguments a.engines) started
          ∙ many_more (and_failed failures.engine_start asks.more) 1 arguments a0.engines
          ∙ ap (λ (m : ℕ). with_many m arguments a0.engines) (failed_more failures.engine_start asks.more 1 ∙ ap (λ (m : ℕ). and_failed failures.engine_start m) all);
      logs = asks.logs ∙ ap (λ (a : Asked). with_many (logs_asked b2 failures) place a.logs) started;
    }

-- if there was no memory to open the log, none was opened, and no failure of a log is reported
pub no_log_for_memory : (fault : Option HostFault) (log : Bool) (n : ℕ) → (is_no_memory fault ≡ true → n ≡ 0) → logs_asked_by fault ≡ (if log then 1 else n) → is_no_memory fault ≡ true → (n ≡ 0) × (log ≡ false)
no_log_for_memory None log n none asked m = cc
no_log_for_memory (Some faults.Failed) log n none asked m = cc
no_log_for_memory (Some faults.NoMemory) true n none asked m = absurd (omega (arith, asked))
no_log_for_memory (Some faults.NoMemory) false n none asked m = (none refl, refl)
