-- The meaning of the status of a run.
use Rattle.std.proofs.Common.{◌≡◌, ◌⊎◌, inl, inr, ◌∙◌, ℕ, List, [], ◌++◌, take, length, Option, Some, None, append-nil, refl, sym, ap, subst}
use Rattle.std.proofs.Math.Seq.{take-length}
use Rattle.std.specs.Io.KnownBytes.{Appends}
use Rattle.line_io.specs.Lines.{Piece, items}
use Rattle.line_io.specs.Runs.{whole}
use Rattle.replay_command_base.specs.declared.ending.Ending.{Ending}
use Rattle.replay_command_base.specs.declared.ending.Ending.TheVariants as endings
use Rattle.replay_command_base.specs.Ran.{FilterRan}
use Rattle.replay_command_base.specs.Reads.{AreRead}
use Rattle.replay_command_base.specs.Streams.{FilterStreams}
use Rattle.replay_command_base.specs.Putting.{IsOfLine, ending_of_line, reason_of_line}
use Rattle.replay_command_base.specs.Filtered.{AreAll, EndsFor, EndsRightly, FilterEndsBy, IsText, WroteAll, WrotePrefix, WroteTo, WroteWhole, why_of}
use Rattle.replay_command_base.specs.Outcomes.{FailsToWrite, Outcome, LineReported, WroteDue, WroteLast}
use Rattle.replay_command_base.proofs.Prefixes.{IsPrefix, all_prefix, later_of, none_later, take_prefix}
use Rattle.replay_command_base.proofs.Endings.{all_items}
use Rattle.replay_command_base.proofs.Outcomes.{outcome}
use Rattle.session_judge.specs.declared.listener.Listener.{Listener}
use Rattle.session_judge.specs.Talks.{opening_judgement}
use Rattle.judge_report.specs.Reports.{report, last_lines}
use Rattle.judge_report.specs.Reads.{ReportStops, ReportCloses}
use Rattle.judge_report.specs.Judging.{judges, Reported}
use Rattle.judge_report.specs.Judged.{whole_report, due_by, due_report, AllJudged, FaultFound, PrefixReported, WholeJudged, Judged}
use Rattle.judge_report.proofs.Grows.{report_prefix}

-- no line is the reason: all were read
closed : (listener : Listener) (lines : List Piece) (ending : Ending) (text : List ℕ) → (IsOfLine ending → ⊥) → Reported listener lines ending text → ReportCloses listener lines ending text
closed listener lines ending text none (inl s) = absurd (none s.of_line)
closed listener lines ending text none (inr c) = c.1

-- a line is the reason
stopped : (listener : Listener) (lines : List Piece) (ending : Ending) (text : List ℕ) → IsOfLine ending → Reported listener lines ending text → ReportStops listener lines ending text
stopped listener lines ending text of (inl s) = s
stopped listener lines ending text of (inr c) = absurd (c.0 of)

-- A PREFIX OF WHAT IS DUE

-- the text is the report that is due for these lines, if they are all, or the part of it that no later line changes
data IsSoFar (listener : Listener) (left : Option (List ℕ)) (lines : List Piece) (text : List ℕ) : Type 0 where
  HasSoFar : (report listener lines).text ≡ text → IsSoFar listener left lines text
  HasAll : AreAll left lines → due_report listener lines ≡ text → IsSoFar listener left lines text

stops_so_far : (listener : Listener) (left : Option (List ℕ)) (lines : List Piece) (ending : Ending) (text : List ℕ) → ReportStops listener lines ending text → IsSoFar listener left lines text
stops_so_far listener left lines ending text s = HasSoFar s.text_is

nothing_last : (listener : Listener) (left : Option (List ℕ)) (lines : List Piece) (text : List ℕ) → (report listener lines).text ++ [] ≡ text → IsSoFar listener left lines text
nothing_last listener left lines text e = HasSoFar (sym (append-nil (report listener lines).text) ∙ e)

closes_so_far : (listener : Listener) (start now : FilterStreams) (got : List ℕ) (lines : List Piece) (ending : Ending) (text : List ℕ) → EndsRightly start now got lines ending → ReportCloses listener lines ending text → IsSoFar listener start.input.left lines text
closes_so_far listener start now got lines endings.Done text w c =
    let course = report listener lines in
    HasAll (all_items start.input.left got lines w.last.1 w.last.0) (ap (λ (e : Option Ending). due_by e course) c.goes_on ∙ c.text_is)
closes_so_far listener start now got lines ending text w c = nothing_last listener start.input.left lines text c.text_is

said_so_far : (listener : Listener) (start now : FilterStreams) (got : List ℕ) (lines : List Piece) (ending : Ending) (text : List ℕ) → EndsRightly start now got lines ending → Reported listener lines ending text → IsSoFar listener start.input.left lines text
said_so_far listener start now got lines ending text w (inl s) = stops_so_far listener start.input.left lines ending text s
said_so_far listener start now got lines ending text w (inr c) = closes_so_far listener start now got lines ending text w c.1

so_far : (listener : Listener) (start now : FilterStreams) (got : List ℕ) (lines : List Piece) (text : List ℕ) (i : IsText judges (opening_judgement listener) lines text) → EndsFor (why_of i) start now got lines → IsSoFar listener start.input.left lines text
so_far listener start now got lines text (inl p) w = HasSoFar (p.1 listener refl).text_is
so_far listener start now got lines text (inr p) w = said_so_far listener start now got lines p.0 text w (p.1 listener refl)

-- WHICH LINE IS A FAULT

of_line_is : (ending : Ending) → IsOfLine ending → ending_of_line ending ≡ Some ending
of_line_is (endings.Differs n) of = refl
of_line_is (endings.Unlawful n) of = refl
of_line_is (endings.NoMark n) of = refl
of_line_is (endings.OutOfStep n) of = refl
of_line_is (endings.MayNotCome n) of = refl
of_line_is ending of = absurd of

no_line_is : (ending : Ending) → (IsOfLine ending → ⊥) → ending_of_line ending ≡ None
no_line_is (endings.Differs n) none = absurd (none tt)
no_line_is (endings.Unlawful n) none = absurd (none tt)
no_line_is (endings.NoMark n) none = absurd (none tt)
no_line_is (endings.OutOfStep n) none = absurd (none tt)
no_line_is (endings.MayNotCome n) none = absurd (none tt)
no_line_is ending none = refl

said_fault : (listener : Listener) (lines : List Piece) (ending : Ending) (text : List ℕ) → Reported listener lines ending text → (report listener lines).ending ≡ ending_of_line ending
said_fault listener lines ending text (inl s) = s.ends ∙ sym (of_line_is ending s.of_line)
said_fault listener lines ending text (inr c) = c.1.goes_on ∙ sym (no_line_is ending c.0)

text_fault : (listener : Listener) (lines : List Piece) (text : List ℕ) (i : IsText judges (opening_judgement listener) lines text) → (report listener lines).ending ≡ reason_of_line (why_of i)
text_fault listener lines text (inl p) = (p.1 listener refl).goes_on
text_fault listener lines text (inr p) = said_fault listener lines p.0 text (p.1 listener refl)

-- THE WHOLE REPORT

nothing_behind_line : (listener : Listener) (lines : List Piece) (ending : Ending) → IsOfLine ending → whole_report listener lines ending ≡ (report listener lines).text
nothing_behind_line listener lines endings.Done of = absurd of
nothing_behind_line listener lines ending of = append-nil (report listener lines).text

said_whole : (listener : Listener) (lines : List Piece) (ending : Ending) (text : List ℕ) → Reported listener lines ending text → whole_report listener lines ending ≡ text
said_whole listener lines ending text (inl s) = nothing_behind_line listener lines ending s.of_line ∙ s.text_is
said_whole listener lines ending text (inr c) = c.1.text_is

-- why no more lines were read, and whether all that is due then was written
record WhyNoMore (listener : Listener) (start now : FilterStreams) (got : List ℕ) (lines : List Piece) : Type 0 where
  why : Option Ending
  reason : EndsFor why start now got lines
  fault : (report listener lines).ending ≡ reason_of_line why
  due : FailsToWrite (whole_report listener lines) why start now

module _ (listener : Listener) (U : Type 0) (start now : FilterStreams) (code : ℕ) where
  abbrev Wrote : List ℕ → Type 0
  Wrote text = Appends start.output.taken now.output.taken text

  prefix_by : (lines later : List Piece) (text : List ℕ) (n : ℕ) (read : AreRead start now lines) → WhyNoMore listener start now read.got lines → IsPrefix text (due_report listener lines) → AreAll start.input.left (lines ++ later) → IsPrefix text (due_report listener (lines ++ later)) → Wrote (take n text)
      → PrefixReported listener start now
  prefix_by lines later text n read w r all f wrote =
      let j = take_prefix n text (due_report listener lines) r in
      let k = take_prefix n text (due_report listener (lines ++ later)) f in
      record {
        lines = lines;
        read = read;
        why = w.why;
        reason = w.reason;
        fault = w.fault;
        due = w.due;
        of_read = (j.0, subst Wrote j.1 wrote);
        later = later;
        all = all;
        written = (k.0, subst Wrote k.1 wrote);
      }

  -- the report that is due for these lines, which are followed by none
  none_more : (lines : List Piece) (text : List ℕ) → IsPrefix text (due_report listener (lines ++ [])) → IsPrefix text (due_report listener lines)
  none_more lines text f = subst (λ (ls : List Piece). IsPrefix text (due_report listener ls)) (append-nil lines) f

  prefix_of : (lines : List Piece) (text : List ℕ) (n : ℕ) (read : AreRead start now lines) → WhyNoMore listener start now read.got lines → IsSoFar listener start.input.left lines text → Wrote (take n text) → PrefixReported listener start now
  prefix_of lines text n read w (HasSoFar e) wrote =
      let later = later_of start.input.left lines read.of_left in
      let of_read = subst (λ (t : List ℕ). IsPrefix t (due_report listener (lines ++ []))) e (report_prefix listener lines []) in
      prefix_by lines later.0 text n read w (none_more lines text of_read) later.1 (subst (λ (t : List ℕ). IsPrefix t (due_report listener (lines ++ later.0))) e (report_prefix listener lines later.0)) wrote
  prefix_of lines text n read w (HasAll all e) wrote =
      let whole = subst (λ (t : List ℕ). IsPrefix text t) (sym e) (all_prefix text) in
      prefix_by lines [] text n read w whole (none_later start.input.left lines all) (subst (λ (ls : List Piece). IsPrefix text (due_report listener ls)) (sym (append-nil lines)) whole) wrote

  cut_by : WrotePrefix judges (opening_judgement listener) start now → PrefixReported listener start now
  cut_by w =
      let why : WhyNoMore listener start now w.read.got w.lines = record { why = why_of w.is_text; reason = w.reason; fault = text_fault listener w.lines w.text w.is_text; due = inl w.failure } in
      prefix_of w.lines w.text w.prefix w.read why (so_far listener start now w.read.got w.lines w.text w.is_text w.reason) w.written

  last_by : WroteLast judges (opening_judgement listener) start now → PrefixReported listener start now
  last_by w =
      let says = w.says listener refl in
      let all : WroteDue (whole_report listener w.lines) (Some w.ending) start now = record { ending = w.ending; is_why = refl; written = subst Wrote (sym (said_whole listener w.lines w.ending w.text says)) w.written; no_failure = w.no_failure; failure = w.failure } in
      let why : WhyNoMore listener start now w.read.got w.lines = record { why = Some w.ending; reason = w.reason; fault = said_fault listener w.lines w.ending w.text says; due = inr all } in
      prefix_of w.lines w.text (length w.text) w.read why (said_so_far listener start now w.read.got w.lines w.ending w.text w.reason says) (subst Wrote (sym (take-length w.text)) w.written)

  broken : U ⊎ WrotePrefix judges (opening_judgement listener) start now ⊎ WroteLast judges (opening_judgement listener) start now → U ⊎ PrefixReported listener start now
  broken (inl u) = inl u
  broken (inr (inl w)) = inr (cut_by w)
  broken (inr (inr w)) = inr (last_by w)

  all_judged : WroteAll judges (opening_judgement listener) start now → AllJudged listener start now
  all_judged w =
      let c = closed listener (items 131072 w.got) endings.Done w.text (λ x. x) (w.says listener refl) in
      record {
        got = w.got;
        reads = w.reads;
        all_read = w.all;
        faultless = c.goes_on;
        written = subst (λ (t : List ℕ). Appends start.output.taken now.output.taken t) (sym c.text_is) w.written;
      }

  fault_found : (n : ℕ) → LineReported judges (opening_judgement listener) start now n → FaultFound listener start now n
  fault_found n r =
      let s = stopped listener r.wrote.lines r.ending r.wrote.text r.of_line (r.wrote.says listener refl) in
      record {
        fault = r.ending;
        code_is = r.code_is;
        lines = r.wrote.lines;
        read = r.wrote.read;
        is_fault = s.ends;
        written = subst (λ (t : List ℕ). Appends start.output.taken now.output.taken t) (sym s.text_is) r.wrote.written;
        announced = r.announced;
      }

  whole_judged : (ending : Ending) (least : ℕ) → (IsOfLine ending → ⊥) → WroteWhole judges (opening_judgement listener) ending least start now → WholeJudged listener ending least start now
  whole_judged ending least none w =
      let c = closed listener (whole 131072 w.got) ending w.text none (w.says listener refl) in
      record {
        got = w.got;
        reads = w.reads;
        least_is = w.least_is;
        first = w.first;
        faultless = c.goes_on;
        written = subst (λ (t : List ℕ). Appends start.output.taken now.output.taken t) (sym c.text_is) w.written;
      }

  completed : ((code ≡ 0) × WroteAll judges (opening_judgement listener) start now) ⊎ LineReported judges (opening_judgement listener) start now code ⊎ (code ≡ 3)
      → ((code ≡ 0) × AllJudged listener start now) ⊎ FaultFound listener start now code ⊎ (code ≡ 3)
  completed (inl d) = inl (d.0, all_judged d.1)
  completed (inr (inl r)) = inr (inl (fault_found code r))
  completed (inr (inr m)) = inr (inr m)

  judged_by : FilterRan (λ e. FilterEndsBy judges (opening_judgement listener) U e start now) start now code → Outcome judges (opening_judgement listener) U start now code → Judged listener U start now code
  judged_by r o = record {
    ended = r;
    lawful = λ z. let d = o.done z in (all_judged d.0, d.1);
    unlawful = λ z. fault_found 1 (o.found z);
    no_mark = λ z. fault_found 2 (o.fault z);
    memory = o.memory;
    reading_failed = λ z. let d = o.reading z in (d.0, whole_judged endings.ReadingFailed 0 (λ x. x) d.1);
    writing_failed = λ z. let d = o.writing z in (d.0, broken d.1);
    too_long = λ z. whole_judged endings.TooLong 4294967296 (λ x. x) (o.too_long z);
    complete = λ x e l s. completed (o.complete x e l s);
  }

  pub judged : FilterRan (λ e. FilterEndsBy judges (opening_judgement listener) U e start now) start now code → Judged listener U start now code
  judged r = judged_by r (outcome judges (opening_judgement listener) U start now code r)
