-- The result of a run of all lives.
use Rattle.std.proofs.Common.{◌≡◌, ◌∙◌, ◌⊎◌, ℕ, suc, ◌+◌, ◌≤◌, List, [], ◌∷◌, ◌++◌, map, length, Bool, true, false, ◌||◌, Option, Some, None, is_some, if◌then◌else◌, refl, sym, ap, subst, arith, inl, inr}
use mathlib.Core.Bool.{or-true}
use Rattle.line_io.specs.Source.{Supplied, Received}
use Rattle.event_pipe.specs.Counts.{CountsFault}
use Rattle.child_engine.specs.Hosts.{Ledger, ShownRun, RisesBy, HostIsUnused, IsStarted, with_run, shown_run}
use Rattle.child_engine.specs.declared.host.Faults.{Faults}
use Rattle.child_engine.specs.declared.host.HostFault.{HostFault}
use Rattle.program_lifecycle.specs.declared.failures.Failures.{Failures}
use Rattle.program_lifecycle.specs.Asked.{logs_asked_by}
use Rattle.program_lifecycle.specs.Early.{FailuresAreEarly, only_memory, only_start}
use Rattle.program_lifecycle.specs.Logs.{is_failed, fresh_log}
use Rattle.program_lifecycle.specs.Took.{LogTook}
use Rattle.program_lifecycle.specs.Outside.{Outside, outside, AreReported}
use Rattle.program_lifecycle.proofs.Asked.{no_log_for_memory}
use Rattle.program_lifecycle.proofs.Counts.{told_by as counts_reported_by, log_reported}
use Rattle.child_engine.specs.declared.host.HostFault.TheVariants as faults
use Rattle.program_lifecycle.specs.Logs.{is_no_memory}
use Rattle.program_lifecycle.proofs.Early.{early_reported}
use Rattle.reviver_runner.specs.declared.life.LifeRun.{LifeRun}
use Rattle.reviver_runner.specs.Closing.{ClosesAll, HasClosed, shown_runs}
use Rattle.reviver_runner.specs.Lives.{Life, AreLives, shown_runs_of_lives}
use Rattle.reviver_runner.specs.declared.lives.AllRuns.{AllRuns}
use Rattle.reviver_runner.specs.Ran.{HandsOut, HasFirst, MayRun, ReviverRunIs, ReviverLeaves}
use Rattle.reviver_runner.proofs.Records.{leaves_by}

moved : (a b c d : ℕ) (f : Bool) → b ≡ a → d ≡ c → CountsFault b c f → CountsFault a d f
moved a b c d f p q t = subst (λ n. CountsFault n d f) p (subst (λ n. CountsFault b n f) (sym q) t)

module _ (lives n ended rs ws : ℕ) (i i' : Supplied) (o o' l l' : Received) (h0 h1 h2 h3 h4 : Faults) (b0 b1 b2 b3 b4 : Ledger) (ls : List (Option (List ℕ))) (fault start : Option HostFault) (failures : Failures) (done : Bool)
    (ledger : IsStarted b0) (opened : b1 ≡ record b0 { logs_out = n }) (few : n ≤ 1) (open_counts : h1 ≡ record h0 { logs = h1.logs }) (open_reported : CountsFault h0.logs h1.logs (is_failed fault))
    (handed : HandsOut lives ended b1 b2 h1 h2 start) (rt : List ShownRun) (closed : HasClosed b2 b3 rt) (closes : ClosesAll h2 h3 rs ws failures.engine_wait)
    (logged : b4 ≡ record b3 { logs = b3.logs ++ ls }) (many : length ls ≡ n) (log_counts : h4 ≡ record h3 { logs = h4.logs }) (log_rises : RisesBy l'.faults h3.logs h4.logs) (fresh : l.faults ≡ 0)
    (input : CountsFault i.faults i'.faults failures.iface_read) (output : CountsFault o.faults o'.faults failures.iface_write) (log : CountsFault l.faults l'.faults done)
    (reads : CountsFault 0 rs failures.engine_read) (writes : CountsFault 0 ws failures.engine_write) (starts : failures.engine_start ≡ is_failed start) (log_is : failures.log ≡ (is_failed fault || done)) where
  reported : AreReported (outside i o h0 b0) (outside i' o' h4 b4) failures
  reported = record {
    iface_read = input;
    iface_write = output;
    engine_read = moved h0.reads h2.reads h3.reads h4.reads failures.engine_read (ap (λ (h : Faults). h.reads) handed.other_counts ∙ ap (λ (h : Faults). h.reads) open_counts) (ap (λ (h : Faults). h.reads) log_counts) (counts_reported_by 0 rs h2.reads h3.reads failures.engine_read refl reads closes.reads);
    engine_write = moved h0.writes h2.writes h3.writes h4.writes failures.engine_write (ap (λ (h : Faults). h.writes) handed.other_counts ∙ ap (λ (h : Faults). h.writes) open_counts) (ap (λ (h : Faults). h.writes) log_counts) (counts_reported_by 0 ws h2.writes h3.writes failures.engine_write refl writes closes.writes);
    engine_start = subst (λ b. CountsFault h0.starts h4.starts b) (sym starts) (moved h0.starts h1.starts h2.starts h4.starts (is_failed start) (ap (λ (h : Faults). h.starts) open_counts) (ap (λ (h : Faults). h.starts) log_counts ∙ closes.starts) handed.starts);
    log = subst (λ b. CountsFault h0.logs h4.logs b) (sym log_is) (log_reported l.faults l'.faults h0.logs h1.logs h3.logs h4.logs (is_failed fault) done fresh open_reported (closes.logs ∙ ap (λ (h : Faults). h.logs) handed.other_counts) log log_rises);
    engine_wait = moved h0.waits h2.waits h3.waits h4.waits failures.engine_wait (ap (λ (h : Faults). h.waits) handed.other_counts ∙ ap (λ (h : Faults). h.waits) open_counts) (ap (λ (h : Faults). h.waits) log_counts) closes.waits;
  }

  out_is : b4.runs_out ≡ ended
  out_is = ap (λ (b : Ledger). b.runs_out) logged ∙ closed.out ∙ handed.out

  logs_first : b3.logs ≡ []
  logs_first = closed.logs ∙ ap (λ (b : Ledger). b.logs) handed.others ∙ ap (λ (b : Ledger). b.logs) opened ∙ ap (λ (b : Ledger). b.logs) ledger

  logs_out_is : b4.logs_out ≡ n
  logs_out_is = ap (λ (b : Ledger). b.logs_out) logged ∙ closed.logs_out ∙ ap (λ (b : Ledger). b.logs_out) handed.others ∙ ap (λ (b : Ledger). b.logs_out) opened

  runs_are : b4.runs ≡ rt
  runs_are =
      ap (λ (b : Ledger). b.runs) logged ∙ closed.reported_are
      ∙ ap (λ (x : List ShownRun). x ++ rt) (ap (λ (b : Ledger). b.runs) handed.others ∙ ap (λ (b : Ledger). b.runs) opened ∙ ap (λ (b : Ledger). b.runs) ledger)

  logs_are : b4.logs ≡ ls
  logs_are = ap (λ (b : Ledger). b.logs) logged ∙ ap (λ (x : List (Option (List ℕ))). x ++ ls) logs_first

  pub ran : (b4.runs ≡ rt → b4.logs ≡ ls → b4.runs_out ≡ ended → b4.logs_out ≡ n → ReviverRunIs lives (outside i o h0 b0) (outside i' o' h4 b4) failures) → (failures.memory ≡ false → failures.log ≡ false → n ≡ 1)
      → ReviverLeaves lives (outside i o h0 b0) (outside i' o' h4 b4) failures
  ran revived one =
      leaves_by lives (outside i o h0 b0) (outside i' o' h4 b4) failures reported
      (ap (λ (b : Ledger). length b.runs) logged ∙ closed.all ∙ ap (λ (b : Ledger). b.runs_out) (sym logged))
      (ap (λ (b : Ledger). length b.logs) logged ∙ ap (λ (x : List (Option (List ℕ))). length (x ++ ls)) logs_first ∙ many ∙ sym logs_out_is)
      (let few_runs = handed.few in let k = out_is in omega (arith, few_runs, k))
      (let k = logs_out_is in omega (arith, k, few))
      (λ _ _. let some = handed.some in let k = out_is in omega (arith, some, k))
      (λ m l _. logs_out_is ∙ one m l)
      (λ z. let some = handed.some in let k = out_is in absurd (omega (arith, some, k, z)))
      (λ z. let some = handed.some in let k = out_is in absurd (omega (arith, some, k, z)))
      (λ _. revived runs_are logs_are out_is logs_out_is)

-- the same, seen from before the engine was started
revived_from : (lives : ℕ) (i : Supplied) (o : Received) (f f' : Faults) (b : Ledger) (after : Outside) (failures : Failures)
    → ReviverRunIs lives (outside i o f' (with_run b)) after failures → ReviverRunIs lives (outside i o f b) after failures
revived_from lives i o f f' b after failures x =
    record {
      upper = x.upper;
      runs = x.runs;
      events = x.events;
      heard = x.heard;
      reported = x.reported;
      memory = x.memory;
      each = x.each;
      refused = x.refused;
      failed_start = x.failed_start;
      up = x.up;
      log = x.log;
      log_failed = x.log_failed;
      logged = x.logged;
      failure = x.failure;
      logs_told = x.logs_told;
      runs_reported = x.runs_reported;
      runs_out = x.runs_out;
      recorded = record { log = x.recorded.log; prefix = x.recorded.prefix; texts = x.recorded.texts; gave = x.recorded.gave; all = x.recorded.all };
    }

pub ran_from : (lives : ℕ) (i : Supplied) (o : Received) (f f' : Faults) (b b' : Ledger) (after : Outside) (failures : Failures)
    → f' ≡ f → b' ≡ with_run b → ReviverLeaves lives (outside i o f' b') after failures → ReviverLeaves lives (outside i o f b) after failures
ran_from lives i o f f' b b' after failures e w x =
    leaves_by lives (outside i o f b) after failures
    (subst (λ (h : Faults). AreReported (outside i o h b) after failures) e (record {
      iface_read = x.reported.iface_read;
      iface_write = x.reported.iface_write;
      engine_read = x.reported.engine_read;
      engine_write = x.reported.engine_write;
      engine_start = x.reported.engine_start;
      log = x.reported.log;
      engine_wait = x.reported.engine_wait;
    }))
    x.runs x.logs x.few_runs x.few_logs x.some_run x.some_log x.nothing x.unlogged
    (λ some. revived_from lives i o f f' b after failures (subst (λ (y : Ledger). ReviverRunIs lives (outside i o f' y) after failures) w (x.revived some)))

neither : (failures : Failures) → (failures ≡ only_memory) ⊎ (failures ≡ only_start) → failures.memory ≡ false → failures.engine_start ≡ false → ⊥
neither failures (inl w) m g = let z : true ≡ false = ap (λ (x : Failures). x.memory) (sym w) ∙ m in cc
neither failures (inr w) m g = let z : true ≡ false = ap (λ (x : Failures). x.engine_start) (sym w) ∙ g in cc

-- no log failed
early_log : (failures : Failures) → (failures ≡ only_memory) ⊎ (failures ≡ only_start) → failures.log ≡ false
early_log failures (inl w) = ap (λ (x : Failures). x.log) w
early_log failures (inr w) = ap (λ (x : Failures). x.log) w

pub unstarted : (lives : ℕ) (i : Supplied) (o : Received) (f f' : Faults) (b b' : Ledger) (failures : Failures) → FailuresAreEarly f f' failures → HostIsUnused b → b' ≡ b → ReviverLeaves lives (outside i o f b) (outside i o f' b') failures
unstarted lives i o f f' b b' failures early u e =
    let none = ap (λ (x : Ledger). x.runs_out) (e ∙ u) in
    let no_log = ap (λ (x : Ledger). x.logs_out) (e ∙ u) in
    leaves_by lives (outside i o f b) (outside i o f' b') failures
    (early_reported i o f f' b b' early.others failures early.starts early.why)
    (ap (λ (x : Ledger). length x.runs) (e ∙ u) ∙ sym none)
    (ap (λ (x : Ledger). length x.logs) (e ∙ u) ∙ sym no_log)
    (omega (arith, none))
    (omega (arith, no_log))
    (λ m g. absurd (neither failures early.why m g))
    (λ _ _ some. absurd (omega (arith, none, some)))
    (λ _. (refl, refl))
    (λ _. (no_log, early_log failures early.why))
    (λ some. absurd (omega (arith, none, some)))

-- BEHIND THE LIVES

pub close_may : (lives n d : ℕ) (b0 b1 b2 : Ledger) (h1 h2 : Faults) (start : Option HostFault) → IsStarted b0 → b1 ≡ record b0 { logs_out = n } → HandsOut lives d b1 b2 h1 h2 start → length b2.runs + d ≡ b2.runs_out
close_may lives n d b0 b1 b2 h1 h2 start e f x =
    let runs : length b2.runs ≡ 0 = ap (λ (b : Ledger). length b.runs) x.others ∙ ap (λ (b : Ledger). length b.runs) f ∙ ap (λ (b : Ledger). length b.runs) e in
    let out = x.out in
    omega (arith, runs, out)

pub log_may : (lives n d count : ℕ) (b0 b1 b2 : Ledger) (h1 h2 : Faults) (start : Option HostFault) → IsStarted b0 → b1 ≡ record b0 { logs_out = n } → HandsOut lives d b1 b2 h1 h2 start
    → count ≡ n → length b2.logs + count ≡ b2.logs_out
log_may lives n d count b0 b1 b2 h1 h2 start e f x k =
    let logs : length b2.logs ≡ 0 = ap (λ (b : Ledger). length b.logs) x.others ∙ ap (λ (b : Ledger). length b.logs) f ∙ ap (λ (b : Ledger). length b.logs) e in
    let out : b2.logs_out ≡ n = ap (λ (b : Ledger). b.logs_out) x.others ∙ ap (λ (b : Ledger). b.logs_out) f in
    omega (arith, logs, out, k)

-- why there was no start
pub why_refused : (start : Option HostFault) (refused engine_start memory : Bool) → refused ≡ is_some start → refused ≡ true → engine_start ≡ is_failed start → (is_no_memory start ≡ true → memory ≡ true)
    → (engine_start ≡ true) ⊎ (memory ≡ true)
why_refused None refused engine_start memory e h s m = let z : true ≡ false = sym h ∙ e in cc
why_refused (Some faults.Failed) refused engine_start memory e h s m = inl s
why_refused (Some faults.NoMemory) refused engine_start memory e h s m = inr (m refl)

-- a start that failed is one that was refused
pub failed_is_refused : (start : Option HostFault) (refused engine_start : Bool) → refused ≡ is_some start → engine_start ≡ is_failed start → engine_start ≡ true → refused ≡ true
failed_is_refused None refused engine_start r s e = let z : false ≡ true = sym s ∙ e in cc
failed_is_refused (Some fault) refused engine_start r s e = r

-- a life for which there was no memory
unbegun : (start : Option HostFault) (refused engine_start : Bool) → refused ≡ is_some start → engine_start ≡ is_failed start → is_no_memory start ≡ true → (refused ≡ true) × (engine_start ≡ false)
unbegun None refused engine_start r s m = cc
unbegun (Some faults.Failed) refused engine_start r s m = cc
unbegun (Some faults.NoMemory) refused engine_start r s m = (r, s)

-- why there was no log, or no other life
pub unopened : (fault start : Option HostFault) (one other log refused engine_start : Bool) (n : ℕ) → one ≡ is_no_memory fault → other ≡ is_no_memory start → (is_no_memory fault ≡ true → n ≡ 0)
    → logs_asked_by fault ≡ (if log then 1 else n) → refused ≡ is_some start → engine_start ≡ is_failed start → (one ≡ true) ⊎ (other ≡ true)
    → ((n ≡ 0) × (log ≡ false)) ⊎ ((refused ≡ true) × (engine_start ≡ false))
unopened fault start one other log refused engine_start n e f none asked r s (inl m) = inl (no_log_for_memory fault log n none asked (sym e ∙ m))
unopened fault start one other log refused engine_start n e f none asked r s (inr m) = inr (unbegun start refused engine_start r s (sym f ∙ m))

pub or_left : (x a b : Bool) → x ≡ (a || b) → a ≡ true → x ≡ true
or_left x true b e h = e
or_left x false b e h = cc

pub or_right : (x a b : Bool) → x ≡ (a || b) → b ≡ true → x ≡ true
or_right x a b e h = e ∙ ap (λ (c : Bool). a || c) h ∙ or-true a

-- as many lives as runs
length-map : {A B : Type 0} (f : A → B) (xs : List A) → length (map f xs) ≡ length xs
length-map f [] = refl
length-map f (x ∷ xs) = ap suc (length-map f xs)

pub lives_count : {S K : Type 0} (source : S → Supplied) (sink : K → Received) (runs : List (LifeRun S K)) (lives : List Life) (n : ℕ) → n ≡ length runs → shown_runs source sink runs ≡ shown_runs_of_lives lives → n ≡ length lives
lives_count source sink runs lives n e t =
    e ∙ sym (length-map (λ (r : LifeRun _ _). shown_run (source r.source) (sink r.sink)) runs) ∙ ap length t ∙ length-map (λ (l : Life). shown_run l.read l.written) lives

-- of as many lives, seen from before the engine was started
pub ran_as : (n m : ℕ) (i : Supplied) (o : Received) (f f' : Faults) (b b' : Ledger) (after : Outside) (failures : Failures) → f' ≡ f → b' ≡ with_run b → n ≡ m → ReviverLeaves n (outside i o f' b') after failures → ReviverLeaves m (outside i o f b) after failures
ran_as n m i o f f' b b' after failures e w h x = ran_from m i o f f' b b' after failures e w (subst (λ (k : ℕ). ReviverLeaves k (outside i o f' b') after failures) h x)

-- the log's ledger reports as much
pub may_as : {S K : Type 0} (source : S → Supplied) (sink : K → Received) (b0 b : Ledger) (runs : AllRuns S K) (n : ℕ) → b ≡ record b0 { logs_out = n } → MayRun source sink b0 runs → MayRun source sink b runs
may_as source sink b0 b runs n e x =
    record {
      may = record { arguments = x.may.arguments; none = x.may.none; space = x.may.space; tally = x.may.tally; out = ap (λ (y : Ledger). y.runs_out) e ∙ x.may.out };
      first = subst (λ (y : Ledger). HasFirst source sink y.says y.sinks_report runs.first) (sym e) x.first;
    }

pub each_as : (b0 b : Ledger) (lives : List Life) (n : ℕ) → b ≡ record b0 { logs_out = n } → AreLives b.says b.sinks_report lives → AreLives b0.says b0.sinks_report lives
each_as b0 b lives n e x = subst (λ (y : Ledger). AreLives y.says y.sinks_report lives) e x

-- the log was fresh
pub logged_as : (text : List ℕ) (failed sinks_report : Bool) (n n' : ℕ) (opened log : Received) → opened ≡ fresh_log sinks_report n → n' ≡ n → LogTook text failed opened log → LogTook text failed (fresh_log sinks_report n') log
logged_as text failed sinks_report n n' opened log e h x = subst (λ (y : Received). LogTook text failed y log) (e ∙ ap (fresh_log sinks_report) (sym h)) x
