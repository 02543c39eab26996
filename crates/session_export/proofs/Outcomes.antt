-- The meaning of the status of a command that exports a session.
use Rattle.std.proofs.Common.{◌≡◌, ◌⊎◌, inl, inr, ℕ, ◌^◌, ◌<◌, List, [], ◌∷◌, length, take, true, Option, None, Some, refl, sym, ap, subst, ◌∙◌, arith}
use Rattle.std.proofs.Math.Seq.{take-length}
use Rattle.std.proofs.KnownBytes.{Appends-nil}
use Rattle.std.specs.Io.KnownBytes.{Appends}
use Rattle.line_io.specs.Lines.{Piece, items}
use Rattle.line_io.specs.Runs.{whole}
use Rattle.policy_rules.specs.SettingRules.Policy.{IsProper}
use Rattle.policy_rules.specs.declared.setting_rules.settings.Settings.{Settings}
use Rattle.adapter_core.specs.Trace.{Step, LawfulTrace}
use Rattle.adapter_core.specs.Parts.{CoreParts}
use Rattle.adapter_core.specs.Represents.{Represents}
use Rattle.adapter_core.proofs.StateInvariants.{stands_first}
use Rattle.adapter_core.proofs.Unique.{unique}
use Rattle.trace_scripts.specs.Script.{events}
use Rattle.trace_scripts.proofs.Scripts.{same_trace}
use Rattle.replay_command_base.specs.declared.ending.Ending.{Ending}
use Rattle.replay_command_base.specs.declared.ending.Ending.TheVariants as endings
use Rattle.replay_command_base.specs.Diagnostics.{command_status, command_diagnostic}
use Rattle.replay_command_base.specs.Ran.{FilterRan}
use Rattle.replay_command_base.specs.Reads.{AreRead}
use Rattle.replay_command_base.specs.Streams.{FilterStreams}
use Rattle.script_replay.specs.Stages.{IsNumbered, is_first_stage}
use Rattle.script_replay.specs.Versions.{script_events, script_fault, settings_by, version_in}
use Rattle.script_replay.proofs.VersionLines.{not_none, one_fault, same_fault, no_fault}
use Rattle.replay_command_base.specs.Outcomes.{FailsToWrite, LineReported, Outcome, WroteDue, WroteLast}
use Rattle.replay_command_base.proofs.Outcomes.{outcome}
use Rattle.replay_command_base.specs.Putting.{IsOfLine, ending_of_line, reason_of_line}
use Rattle.replay_command_base.specs.Filtered.{EndsFor, FilterEndsBy, IsText, WroteAll, WrotePrefix, WroteWhole, why_of}
use Rattle.session_export.specs.declared.writer.SessionWriter.{SessionWriter}
use Rattle.session_export.specs.Exporting.{Exporting, exported_text, text_due, text_due_for, text_with_end}
use Rattle.session_export.specs.Writing.{ExportFaulted, ExportFinished, HasSession, WriterIsUnused, MayWrite, ExportEndsWith, Written, new_session_writer, export_meaning}
use Rattle.session_export.specs.Outcomes.{AllExported, CompletesText, ExportedToFault, PrefixExported, IsSession, SessionOutcome, ExportReportsFault, WholeExported, WritesText}

-- A WRITER BEFORE ITS FIRST LINE

settings_at_first : (o : Settings) (core : CoreParts) → Represents o core [] → core.settings ≡ o
settings_at_first o core st = ap (λ (v : CoreParts). v.settings) st.0

pub unused_fresh : {T : Type 0} (means : Exporting T) (o : Settings) → IsProper o → means.at means.first None → WriterIsUnused means o (new_session_writer means o)
unused_fresh means o p at = record { is_start = refl; stands = stands_first o p; at = at }

pub may_write : {T : Type 0} (means : Exporting T) (o : Settings) (w : SessionWriter T) → WriterIsUnused means o w → MayWrite means w
may_write means o w u = record {
  new = λ s. (subst (λ (x : Settings). Represents x w.core []) (sym (settings_at_first o w.core u.stands)) u.stands, u.at);
  at = λ opened. let start : is_first_stage w.stage ≡ true = ap is_first_stage u.is_start in let z = sym start ∙ opened in cc;
  numbered = subst IsNumbered (sym u.is_start) tt;
  reached = record { settings = o; trace = []; lawful = tt; stands = u.stands };
}

pub nothing_written : {T : Type 0} (means : Exporting T) (w : SessionWriter T) (o : Settings) → WriterIsUnused means o w → Written means o [] w []
nothing_written means w o u = record {
  script = [];
  took = record { is_start = u.is_start; stands = u.stands; is_empty = refl; appended = Appends-nil None };
  announced = refl;
}

-- WHAT THE STATUS SAYS

-- the text is what is due of the one session of these lines, if no more are taken for this reason
record IsDue {T : Type 0} (means : Exporting T) (o : Settings) (why : Option Ending) (lines : List Piece) (text : List ℕ) : Type 0 where
  fault : script_fault lines ≡ reason_of_line why
  trace : List Step
  lawful : LawfulTrace (settings_by (version_in lines) o) trace
  events_are : events trace ≡ script_events lines
  text_is : text ≡ text_due_for means why o lines trace

module _ {T : Type 0} (means : Exporting T) (o : Settings) (w0 : SessionWriter T) (unused : WriterIsUnused means o w0) (Untouched : Type 0) (start now : FilterStreams) (code : ℕ)
    (ran : FilterRan (λ e. FilterEndsBy (export_meaning means) w0 Untouched e start now) start now code) where
  out : Outcome (export_meaning means) w0 Untouched start now code
  out = outcome (export_meaning means) w0 Untouched start now code ran

  abbrev Wrote : List ℕ → Type 0
  Wrote text = Appends start.output.taken now.output.taken text

  session_of : (lines : List Piece) (trace : List Step) → LawfulTrace (settings_by (version_in lines) o) trace → events trace ≡ script_events lines → IsSession o lines trace
  session_of lines trace l e =
      let q = settings_by (version_in lines) o in
      record { lawful = l; events_are = e; only = λ other l' e'. same_trace q (unique q) other trace l' l (e' ∙ sym e) }

  text_by : (text_of : Settings → List Piece → List Step → List ℕ) (lines : List Piece) (text : List ℕ) → HasSession text_of o lines text → Wrote text → WritesText text_of o start now lines
  text_by text_of lines text s a = record {
    trace = s.trace;
    session = session_of lines s.trace s.lawful s.events_are;
    written = subst Wrote s.text_is a;
  }

  all_by : WroteAll (export_meaning means) w0 start now → AllExported means o start now
  all_by w =
      let says = w.says o unused in
      record {
        got = w.got;
        reads = w.reads;
        all_read = w.all;
        faultless = says.0;
        text = text_by (text_with_end means endings.Done) (items 131072 w.got) w.text says.1 w.written;
      }

  -- the ending by a line is the first fault
  faulted_by : (lines : List Piece) (e : Ending) (text : List ℕ) → IsOfLine e → ExportEndsWith means o lines e text → ExportFaulted means e o lines text × (command_status e ≡ 2)
  faulted_by lines (endings.NoMark n) text i s = (s, refl)
  faulted_by lines (endings.OutOfStep n) text i s = (s, refl)
  faulted_by lines (endings.MayNotCome n) text i s = (s, refl)
  faulted_by lines (endings.Differs n) text i s = absurd s
  faulted_by lines (endings.Unlawful n) text i s = absurd s
  faulted_by lines e text i s = absurd i

  abbrev Reported : ℕ → Type 0
  Reported n = LineReported (export_meaning means) w0 start now n

  the_fault : (n : ℕ) (r : Reported n) → ExportFaulted means r.ending o r.wrote.lines r.wrote.text × (command_status r.ending ≡ 2)
  the_fault n r = faulted_by r.wrote.lines r.ending r.wrote.text r.of_line (r.wrote.says o unused)

  reported : (n : ℕ) → Reported n → ExportedToFault means o start now
  reported n r =
      let f = the_fault n r in
      record {
        fault = r.ending;
        announced = r.announced;
        lines = r.wrote.lines;
        read = r.wrote.read;
        is_fault = f.0.0;
        text = text_by (exported_text means) r.wrote.lines r.wrote.text f.0.1 r.wrote.written;
      }

  no_other : code ≡ 1 → ⊥
  no_other z = let r = out.found z in let n = r.code_is ∙ (the_fault 1 r).1 in cc

  whole_by : (e : Ending) (least : ℕ) → ((lines : List Piece) (text : List ℕ) → ExportEndsWith means o lines e text → ExportFinished means e o lines text) → WroteWhole (export_meaning means) w0 e least start now → WholeExported means e least o start now
  whole_by e least by w =
      let f = by (whole 131072 w.got) w.text (w.says o unused) in
      record {
        got = w.got;
        reads = w.reads;
        least_is = w.least_is;
        first = w.first;
        faultless = f.0;
        text = text_by (text_with_end means e) (whole 131072 w.got) w.text f.1 w.written;
      }

  -- A PREFIX WAS WRITTEN

  -- a line ended it: the text is that of the session before it
  of_fault : (lines : List Piece) (fault : Ending) (text : List ℕ) → ending_of_line fault ≡ Some fault → ((trace : List Step) → text_due means fault o lines trace ≡ exported_text means o lines trace) → ExportFaulted means fault o lines text → IsDue means o (Some fault) lines text
  of_fault lines fault text is due s = record {
    fault = s.0 ∙ sym is;
    trace = s.1.trace;
    lawful = s.1.lawful;
    events_are = s.1.events_are;
    text_is = s.1.text_is ∙ sym (due s.1.trace);
  }

  of_end : (lines : List Piece) (ending : Ending) (text : List ℕ) → ending_of_line ending ≡ None → ((trace : List Step) → text_due means ending o lines trace ≡ text_with_end means ending o lines trace) → ExportFinished means ending o lines text → IsDue means o (Some ending) lines text
  of_end lines ending text is due s = record {
    fault = s.0 ∙ sym is;
    trace = s.1.trace;
    lawful = s.1.lawful;
    events_are = s.1.events_are;
    text_is = s.1.text_is ∙ sym (due s.1.trace);
  }

  said : (lines : List Piece) (e : Ending) (text : List ℕ) → ExportEndsWith means o lines e text → IsDue means o (Some e) lines text
  said lines endings.Done text s = of_end lines endings.Done text refl (λ t. refl) s
  said lines endings.ReadingFailed text s = of_end lines endings.ReadingFailed text refl (λ t. refl) s
  said lines endings.TooLong text s = of_end lines endings.TooLong text refl (λ t. refl) s
  said lines (endings.NoMark n) text s = of_fault lines (endings.NoMark n) text refl (λ t. refl) s
  said lines (endings.OutOfStep n) text s = of_fault lines (endings.OutOfStep n) text refl (λ t. refl) s
  said lines (endings.MayNotCome n) text s = of_fault lines (endings.MayNotCome n) text refl (λ t. refl) s
  said lines e text s = absurd s

  written_by : (lines : List Piece) (w : SessionWriter T) (text : List ℕ) → Written means o lines w text → 0 < length text → IsDue means o None lines text
  written_by [] w text g some = let n = ap length g.announced in absurd (let z : ⊥ = omega (arith, n, some) in z)
  written_by (l ∷ ls) w text g some = record {
    fault = g.took.fine;
    trace = g.took.trace;
    lawful = g.took.lawful;
    events_are = g.took.events_are;
    text_is = g.announced g.took.trace g.took.lawful g.took.events_are;
  }

  text_is_due : (lines : List Piece) (text : List ℕ) (i : IsText (export_meaning means) w0 lines text) → 0 < length text → IsDue means o (why_of i) lines text
  text_is_due lines text (inl p) some = written_by lines p.0 text (p.1 o unused) some
  text_is_due lines text (inr p) some = said lines p.0 text (p.1 o unused)

  prefix_by : (lines : List Piece) (read : AreRead start now lines) (why : Option Ending) → EndsFor why start now read.got lines → (text : List ℕ) (d : IsDue means o why lines text) → FailsToWrite (λ ending. text_due means ending o lines d.trace) why start now → (n : ℕ) → Wrote (take n text)
      → PrefixExported means o start now
  prefix_by lines read why reason text d due n a = record {
    lines = lines;
    read = read;
    why = why;
    reason = reason;
    fault = d.fault;
    trace = d.trace;
    session = session_of lines d.trace d.lawful d.events_are;
    due = due;
    prefix = n;
    written = subst (λ (t : List ℕ). Wrote (take n t)) d.text_is a;
  }

  cut_by : WrotePrefix (export_meaning means) w0 start now → PrefixExported means o start now
  cut_by w = prefix_by w.lines w.read (why_of w.is_text) w.reason w.text (text_is_due w.lines w.text w.is_text w.some) (inl w.failure) w.prefix w.written

  last_by : WroteLast (export_meaning means) w0 start now → PrefixExported means o start now
  last_by w =
      let d = said w.lines w.ending w.text (w.says o unused) in
      let all : WroteDue (λ ending. text_due means ending o w.lines d.trace) (Some w.ending) start now = record { ending = w.ending; is_why = refl; written = subst Wrote d.text_is w.written; no_failure = w.no_failure; failure = w.failure } in
      prefix_by w.lines w.read (Some w.ending) w.reason w.text d (inr all) (length w.text) (subst Wrote (sym (take-length w.text)) w.written)

  part : Untouched ⊎ WrotePrefix (export_meaning means) w0 start now ⊎ WroteLast (export_meaning means) w0 start now → Untouched ⊎ PrefixExported means o start now
  part (inl u) = inl u
  part (inr (inl w)) = inr (cut_by w)
  part (inr (inr w)) = inr (last_by w)

  -- WHICH STATUS COMES

  abbrev Completed : Type 0
  Completed = ((code ≡ 0) × WroteAll (export_meaning means) w0 start now) ⊎ Reported code ⊎ (code ≡ 3)

  complete : CompletesText start now code
  complete x e l none s = of (out.complete x e l s) where
    of : Completed → (code ≡ 0) ⊎ (code ≡ 3)
    of (inl p) = inl p.0
    of (inr (inl r)) = absurd (not_none (script_fault (items 131072 x)) r.ending none (same_fault start.input.left r.wrote.lines x r.ending r.wrote.read.of_left e (the_fault code r).0.0))
    of (inr (inr z)) = inr z

  faults_announced : ExportReportsFault start now code
  faults_announced x fault e l is s = of (out.complete x e l s) where
    of : Completed → ((code ≡ 2) × Appends start.diag.taken now.diag.taken (command_diagnostic fault)) ⊎ (code ≡ 3)
    of (inl p) = absurd (not_none (script_fault (items 131072 x)) fault (no_fault start.input.left p.1.got x p.1.all e (p.1.says o unused).0) is)
    of (inr (inl r)) =
        let f = the_fault code r in
        let same = one_fault (script_fault (items 131072 x)) r.ending fault (same_fault start.input.left r.wrote.lines x r.ending r.wrote.read.of_left e f.0.0) is in
        inl (r.code_is ∙ f.1, subst (λ (y : Ending). Appends start.diag.taken now.diag.taken (command_diagnostic y)) same r.announced)
    of (inr (inr z)) = inr z

  pub session_outcome : SessionOutcome means o Untouched start now code
  session_outcome = record {
    all_announced = λ z. let d = out.done z in (all_by d.0, d.1);
    no_other = no_other;
    fault_announced = λ z. reported 2 (out.fault z);
    memory = λ z. out.memory z;
    reading_failed = λ z. let p = out.reading z in (p.0, whole_by endings.ReadingFailed 0 (λ lines text s. s) p.1);
    writing_failed = λ z. let p = out.writing z in (p.0, part p.1);
    too_long = λ z. whole_by endings.TooLong (2 ^ 32) (λ lines text s. s) (out.too_long z);
    complete = complete;
    faults_announced = faults_announced;
  }
