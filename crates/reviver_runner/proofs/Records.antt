-- The record of a run of all lives in the ledger of a host that reports its bytes.
use Rattle.std.proofs.Common.{◌≡◌, ◌∙◌, ◌⊎◌, inl, inr, ◌<◌, ◌≤◌, ℕ, Bool, true, false, refl, sym, ap, subst, List, [], ◌∷◌, ◌++◌, append-nil, map, length, Option, Some}
use Rattle.std.proofs.lemmas.Bool.{or_parts}
use Rattle.std.proofs.lemmas.List.{length-map}
use Rattle.std.specs.List.{AllByRecursion, flat_map, list_any}
use Rattle.line_io.specs.Event.{Event, EngineLong}
use Rattle.line_io.specs.Source.{Received}
use Rattle.line_io.specs.Lines.{items}
use Rattle.event_pipe.specs.declared.message.Peer.TheVariants as peers
use Rattle.event_pipe.specs.declared.reader.ReadEnd.{ReadEnd}
use Rattle.event_pipe.specs.declared.reader.ReadEnd.TheVariants as read_ends
use Rattle.event_pipe.specs.Arrivals.{Arrived, is_read_fault, line_limit}
use Rattle.child_engine.specs.Hosts.{Ledger, ShownRun, fresh_source, shown_run}
use Rattle.engine_revival.specs.Script.{revival_script}
use Rattle.program_lifecycle.specs.declared.failures.Failures.{Failures}
use Rattle.program_lifecycle.specs.Early.{no_failure}
use Rattle.program_lifecycle.specs.Logs.{fresh_log, closed_logs}
use Rattle.program_lifecycle.specs.Outside.{Outside, AreReported, HasNoLog}
use Rattle.program_lifecycle.specs.Readers.{lacked_memory}
use Rattle.program_lifecycle.proofs.Reporting.{taken_is, left_is, none_left, sink_took, log_took, prefix_of, if_some, reported_is, is_done}
use Rattle.program_lifecycle.specs.Took.{LogTook}
use Rattle.reviver_runner.specs.Played.{has_refusal}
use Rattle.reviver_runner.specs.Reading.{LinesOf, line_events}
use Rattle.reviver_runner.specs.Lives.{Life, AreLives, life_events, shown_runs_of_lives}
use Rattle.reviver_runner.specs.Recorded.{GavePrefix, GaveAll, ReviverRecorded, ReviverRunIsWhole, gave_all, all_lines}
use Rattle.reviver_runner.specs.Ran.{ReviverReportsRun, ReviverRunIs, ReviverLeaves}

-- OF EACH LIFE

took_texts : (says : Option (List ℕ)) (sinks_report : Bool) (lives : List Life) → sinks_report ≡ true → AreLives says sinks_report lives → list_any (λ l. l.broken) lives ≡ false
    → map (λ (run : ShownRun). run.taken) (shown_runs_of_lives lives) ≡ map (λ (l : Life). Some l.text) lives
took_texts says sinks_report [] e a b = refl
took_texts says sinks_report (l ∷ lives) e a b =
    let both = or_parts l.broken (list_any (λ (x : Life). x.broken) lives) b in
    let first = sink_took sinks_report l.written.taken l.text e (a.0.text.whole both.0) in
    let more = took_texts says sinks_report lives e a.1 both.1 in
    ap (λ (o : Option (List ℕ)). o ∷ map (λ (run : ShownRun). run.taken) (shown_runs_of_lives lives)) first ∙ ap (λ (os : List (Option (List ℕ))). Some l.text ∷ os) more

gave_prefix : (says : Option (List ℕ)) (sinks_report : Bool) (bytes : List ℕ) (lives : List Life) → says ≡ Some bytes → AreLives says sinks_report lives → AllByRecursion (GavePrefix bytes) lives
gave_prefix says sinks_report bytes [] e a = tt
gave_prefix says sinks_report bytes (l ∷ lives) e a =
    let lines = subst (λ (x : Option (List ℕ)). LinesOf (fresh_source x) l.read l.lines l.end) e a.0.lines in
    let left = left_is bytes lines.got l.read.left lines.reads.left in
    (record { got = lines.got; rest = left.0; is = left.1; given = taken_is l.read.given lines.got lines.reads.given; left = left.2 }, gave_prefix says sinks_report bytes lives e a.1)

-- a reader that came to its end
gave_whole : (bytes : List ℕ) (l : Life) → LinesOf (fresh_source (Some bytes)) l.read l.lines l.end → l.end ≡ read_ends.Done → GaveAll bytes l
gave_whole bytes l lines done =
    let left = left_is bytes lines.got l.read.left lines.reads.left in
    let none = none_left l.read.left left.0 left.2 (lines.at_end done) in
    let got_is : bytes ≡ lines.got = left.1 ∙ ap (λ (rest : List ℕ). lines.got ++ rest) none ∙ append-nil lines.got in
    record {
      given = taken_is l.read.given lines.got lines.reads.given ∙ ap (λ (x : List ℕ). Some x) (sym got_is);
      left = left.2 ∙ ap (λ (x : List ℕ). Some x) none;
      lines = lines.all done ∙ ap (λ (x : List ℕ). line_events (items line_limit x)) (sym got_is);
    }

all_gave : (says : Option (List ℕ)) (sinks_report : Bool) (bytes : List ℕ) (lives : List Life) → says ≡ Some bytes → AreLives says sinks_report lives
    → list_any (λ l. is_read_fault l.end) lives ≡ false → list_any (λ l. lacked_memory l.end) lives ≡ false → AllByRecursion (GaveAll bytes) lives
all_gave says sinks_report bytes [] e a f m = tt
all_gave says sinks_report bytes (l ∷ lives) e a f m =
    let fine = or_parts (is_read_fault l.end) (list_any (λ (x : Life). is_read_fault x.end) lives) f in
    let some = or_parts (lacked_memory l.end) (list_any (λ (x : Life). lacked_memory x.end) lives) m in
    (gave_whole bytes l (subst (λ (x : Option (List ℕ)). LinesOf (fresh_source x) l.read l.lines l.end) e a.0.lines) (is_done l.end fine.0 some.0), all_gave says sinks_report bytes lives e a.1 fine.1 some.1)

-- the runs, as the host is shown them, of lives that gave all, and took their texts
runs_are : (bytes : List ℕ) (lives : List Life) → AllByRecursion (GaveAll bytes) lives → map (λ (run : ShownRun). run.taken) (shown_runs_of_lives lives) ≡ map (λ (l : Life). Some l.text) lives
    → shown_runs_of_lives lives ≡ map (gave_all bytes) (map (λ (l : Life). l.text) lives)
runs_are bytes [] a t = refl
runs_are bytes (l ∷ lives) a t =
    let first : l.written.taken ≡ Some l.text = cc in
    let more : map (λ (run : ShownRun). run.taken) (shown_runs_of_lives lives) ≡ map (λ (x : Life). Some x.text) lives = cc in
    ap (λ (run : ShownRun). run ∷ shown_runs_of_lives lives) (reported_is (shown_run l.read l.written) (Some bytes) (Some []) (Some l.text) a.0.given a.0.left first)
    ∙ ap (λ (runs : List ShownRun). gave_all bytes l.text ∷ runs) (runs_are bytes lives a.1 more)

events_are : (bytes : List ℕ) (lives : List Life) → AllByRecursion (GaveAll bytes) lives → life_events lives ≡ flat_map (λ _. all_lines bytes) (map (λ (l : Life). l.text) lives)
events_are bytes [] a = refl
events_are bytes (l ∷ lives) a =
    ap (λ (es : List Event). (es ++ EngineLong ∷ []) ++ life_events lives) a.0.lines ∙ ap (λ (es : List Event). all_lines bytes ++ es) (events_are bytes lives a.1)

-- OF THE RUN

pub recorded_by : (number : ℕ) (upper : ReadEnd) (lives : List Life) (events : List Event) (before after : Ledger) (failures : Failures) (log : Received) (log_failed : Bool)
    → AreLives before.says before.sinks_report lives → ReviverReportsRun upper lives failures → LogTook (revival_script number events) log_failed (fresh_log before.sinks_report after.logs_out) log
    → (failures.log ≡ false → log_failed ≡ false) → after.logs ≡ closed_logs after.logs_out log → after.runs ≡ shown_runs_of_lives lives → ReviverRecorded number lives events before after failures
recorded_by number upper lives events before after failures log log_failed each reported took fails logs runs =
    let text = revival_script number events in
    record {
      log = λ sinks_report one fine. log_took before.sinks_report after.logs_out log text after.logs sinks_report one logs (took.whole (fails fine));
      prefix = λ sinks_report one.
          let f = prefix_of text log_failed (fresh_log before.sinks_report after.logs_out) log took in
          record { prefix = f.prefix; rest = f.rest; is = f.is; has = log_took before.sinks_report after.logs_out log f.prefix after.logs sinks_report one logs f.took };
      texts = λ sinks_report fine.
          ap (λ (rs : List ShownRun). map (λ (run : ShownRun). run.taken) rs) runs ∙ took_texts before.says before.sinks_report lives sinks_report each (sym reported.engine_write ∙ fine);
      gave = λ bytes says. gave_prefix before.says before.sinks_report bytes lives says each;
      all = λ bytes says fine some. all_gave before.says before.sinks_report bytes lives says each (sym reported.engine_read ∙ fine) (reported.life_memory some);
    }

neither : (false ≡ true) ⊎ (false ≡ true) → true ≡ false
neither (inl e) = cc
neither (inr e) = cc

not_refused : (b : Bool) → (b ≡ true → (false ≡ true) ⊎ (false ≡ true)) → b ≡ false
not_refused false h = refl
not_refused true h = neither (h refl)

module _ (number : ℕ) (before after : Outside) where
  whole_run : (r : ReviverRunIs number before after no_failure) → 0 < after.ledger.runs_out → after.ledger.runs_out ≤ number → after.ledger.logs_out ≡ 1 → before.ledger.sinks_report ≡ true → (bytes : List ℕ)
      → before.ledger.says ≡ Some bytes → ReviverRunIsWhole number bytes before after
  whole_run r some few one sinks_report bytes says =
      let gave = r.recorded.all bytes says refl refl in
      let took = r.recorded.texts sinks_report refl in
      let texts : List (List ℕ) = map (λ (l : Life). l.text) r.runs in
      let lives : length texts ≡ length r.runs = length-map r.runs (λ (l : Life). l.text) in
      let out : after.ledger.runs_out ≡ length texts = r.runs_out ∙ sym lives in
      record {
        events = r.events;
        may = r.heard.may;
        lawful = r.heard.lawful;
        unrefused = not_refused (has_refusal r.events) r.refused;
        log = r.recorded.log sinks_report one refl;
        arrived = r.heard.arrived;
        iface = subst (λ (end : ReadEnd). Arrived peers.Iface before.input after.input r.heard.arrived end) (is_done r.upper (sym r.reported.iface_read) (r.reported.iface_memory refl)) r.heard.did_arrive;
        orders = r.heard.orders;
        texts = texts;
        begun = r.heard.begun ∙ sym lives;
        some = subst (λ (n : ℕ). 0 < n) out some;
        few = subst (λ (n : ℕ). n ≤ number) out few;
        texts_are = r.heard.texts;
        runs = r.runs_reported ∙ runs_are bytes r.runs gave (ap (λ (rs : List ShownRun). map (λ (run : ShownRun). run.taken) rs) (sym r.runs_reported) ∙ took);
        marks = r.heard.marks ∙ events_are bytes r.runs gave;
        output = r.up.whole refl;
      }

  pub leaves_by : (failures : Failures) → AreReported before after failures → length after.ledger.runs ≡ after.ledger.runs_out → length after.ledger.logs ≡ after.ledger.logs_out → after.ledger.runs_out ≤ number
      → after.ledger.logs_out ≤ 1 → (failures.memory ≡ false → failures.engine_start ≡ false → 0 < after.ledger.runs_out)
      → (failures.memory ≡ false → failures.log ≡ false → 0 < after.ledger.runs_out → after.ledger.logs_out ≡ 1)
      → (after.ledger.runs_out ≡ 0 → (after.input ≡ before.input) × (after.output ≡ before.output)) → (after.ledger.runs_out ≡ 0 → HasNoLog after.ledger failures) → (0 < after.ledger.runs_out → ReviverRunIs number before after failures) → ReviverLeaves number before after failures
  leaves_by failures reported runs logs few_runs few_logs some_run some_log nothing unlogged revived = record {
    reported = reported;
    runs = runs;
    logs = logs;
    few_runs = few_runs;
    few_logs = few_logs;
    some_run = some_run;
    some_log = some_log;
    nothing = nothing;
    unlogged = unlogged;
    revived = revived;
    whole = λ e sinks_report.
        let memory = ap (λ (f : Failures). f.memory) e in
        let some = some_run memory (ap (λ (f : Failures). f.engine_start) e) in
        let one = some_log memory (ap (λ (f : Failures). f.log) e) some in
        let run = subst (λ (f : Failures). ReviverRunIs number before after f) e (revived some) in
        if_some (λ bytes. ReviverRunIsWhole number bytes before after) before.ledger.says (λ bytes says. whole_run run some few_runs one sinks_report bytes says);
  }
