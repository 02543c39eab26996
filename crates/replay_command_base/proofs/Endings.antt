-- The end of a run over lines.
use Rattle.std.proofs.Common.{◌≡◌, ◌≢◌, inl, inr, ℕ, ◌≤◌, ◌<◌, List, [], ◌++◌, length, Option, None, Some, sym, ap, subst, ◌∙◌, arith, append-nil}
use Rattle.std.specs.Io.KnownBytes.{Appends}
use Rattle.std.specs.Prelude.{⊤}
use Rattle.line_io.specs.Causes.{Rose}
use Rattle.line_io.specs.Lines.{Piece, SourceGave, items}
use Rattle.line_io.specs.Out.{Text}
use Rattle.line_io.specs.Runs.{whole}
use Rattle.line_io.specs.Source.{Received, Supplied}
use Rattle.line_io.specs.Taken.{Place, Taken}
use Rattle.line_io.specs.declared.consumer.LinesEnd.TheVariants as ends
use Rattle.replay_command_base.specs.declared.ending.Ending.{Ending}
use Rattle.replay_command_base.specs.declared.ending.Ending.TheVariants as endings
use Rattle.replay_command_base.specs.Ran.{Causes}
use Rattle.replay_command_base.specs.Reads.{AreFirst, AreRead, IsAll}
use Rattle.replay_command_base.specs.Streams.{FilterStreams, filter_streams}
use Rattle.replay_command_base.proofs.Readings.{ended_all, ended_got, ended_read, prefix_got, read_prefix, stopped_got, stopped_read, whole_got, whole_read}
use Rattle.replay_command_base.specs.Putting.{Putting, IsOfLine, IsVerdict}
use Rattle.replay_command_base.specs.Filtered.{AreAll, EndsFor, EndsRightly, Filtered, FilterEndsBy, IsText, WroteTo, WroteWhole, why_of}
use Rattle.replay_command_base.specs.Writing.{FilterBroke, FilterEnded, FilterFinished, FilterLeft, HasReason, Said, filter_meaning}

to_line : {S : Type 0} (means : Putting S) (s0 : S) (start now : FilterStreams) (e : Ending) → IsOfLine e → WroteTo means s0 e start now → Filtered means s0 e start now
to_line means s0 start now (endings.NoMark n) i r = r
to_line means s0 start now (endings.OutOfStep n) i r = r
to_line means s0 start now (endings.MayNotCome n) i r = r
to_line means s0 start now (endings.Differs n) i r = r
to_line means s0 start now (endings.Unlawful n) i r = r
to_line means s0 start now e i r = absurd i

-- lines that are no more than the first are all, where none follow
rightly_by : {S : Type 0} (means : Putting S) (s0 : S) (Goes : Type 0) (Why : Ending → Type 0) (start now : FilterStreams) (got : List ℕ) (pieces lines more : List Piece) (text : List ℕ) → pieces ≡ lines ++ more
    → (Goes → now.input.faults ≡ start.input.faults) → ((e : Ending) → Why e → EndsRightly start now got pieces e) → (i : IsText means s0 lines text) → HasReason Goes (λ e. Why e × (more ≡ [])) i → EndsFor (why_of i) start now got lines
rightly_by means s0 Goes Why start now got pieces lines more text e k f (inl p) w = k w
rightly_by means s0 Goes Why start now got pieces lines more text e k f (inr p) w =
    subst (λ (ls : List Piece). EndsRightly start now got ls p.0) (e ∙ ap (λ (ls : List Piece). lines ++ ls) w.1 ∙ append-nil lines) (f p.0 w.0)

stopped_cut : {S : Type 0} (means : Putting S) (s0 : S) (Goes : Type 0) (Why : Ending → Type 0) (answer : Ending) (pieces : List Piece) (start now : FilterStreams) (r : AreRead start now pieces) (given : List ℕ) → r.got ≡ given → (Goes → now.input.faults ≡ start.input.faults)
    → ((e : Ending) → Why e → EndsRightly start now given pieces e) → answer ≡ endings.WritingFailed → FilterBroke means s0 Goes Why pieces start.output now.output → Filtered means s0 answer start now
stopped_cut means s0 Goes Why answer pieces start now r given same k f e b = subst (λ (x : Ending). Filtered means s0 x start now) (sym e) (record {
  lines = b.lines;
  read = read_prefix start now pieces b.lines b.more b.first r;
  text = b.text;
  is_text = b.is_text;
  reason = subst (λ (got : List ℕ). EndsFor (why_of b.is_text) start now got b.lines) (sym (prefix_got start now pieces b.lines b.more b.first r ∙ same))
      (rightly_by means s0 Goes Why start now given pieces b.lines b.more b.text b.first k f b.is_text b.reason);
  some = b.some;
  prefix = b.prefix;
  written = b.appended;
  failure = b.failure;
})

-- WHY NO MORE LINES WERE TAKEN

-- only the end of the input may come to something else
same_end : (ending verdict : Ending) → (ending ≡ endings.Done → ⊥) → IsVerdict ending verdict → verdict ≡ ending
same_end ending verdict n (inl same) = same
same_end ending verdict n (inr w) = absurd (n w.0)

pub all_items : (left : Option (List ℕ)) (got : List ℕ) (lines : List Piece) → lines ≡ items 131072 got → IsAll left got → AreAll left lines
all_items None got lines e a = tt
all_items (Some x) got lines e a = ap (items 131072) a ∙ sym e

rightly_done : (start now : FilterStreams) (got : List ℕ) (lines : List Piece) → IsAll start.input.left got → lines ≡ items 131072 got → now.input.faults ≡ start.input.faults → (e : Ending) → e ≡ endings.Done → EndsRightly start now got lines e
rightly_done start now got lines a l c e same = subst (EndsRightly start now got lines) (sym same) (record { last = (a, l); count = c })

rightly_failed : (start now : FilterStreams) (got : List ℕ) (lines : List Piece) → lines ≡ whole 131072 got → Rose start.input.faults now.input.faults → (e : Ending) → e ≡ endings.ReadingFailed → EndsRightly start now got lines e
rightly_failed start now got lines l c e same = subst (EndsRightly start now got lines) (sym same) (record { last = l; count = c })

rightly_long : (start now : FilterStreams) (got : List ℕ) (lines : List Piece) → lines ≡ whole 131072 got → 4294967296 ≤ length got → now.input.faults ≡ start.input.faults → (e : Ending) → e ≡ endings.TooLong → EndsRightly start now got lines e
rightly_long start now got lines l n c e same = subst (EndsRightly start now got lines) (sym same) (record { last = (l, n); count = c })

rightly_line : (start now : FilterStreams) (got : List ℕ) (lines : List Piece) → now.input.faults ≡ start.input.faults → (e : Ending) → IsOfLine e → EndsRightly start now got lines e
rightly_line start now got lines c (endings.Differs n) i = record { last = tt; count = c }
rightly_line start now got lines c (endings.Unlawful n) i = record { last = tt; count = c }
rightly_line start now got lines c (endings.NoMark n) i = record { last = tt; count = c }
rightly_line start now got lines c (endings.OutOfStep n) i = record { last = tt; count = c }
rightly_line start now got lines c (endings.MayNotCome n) i = record { last = tt; count = c }
rightly_line start now got lines c e i = absurd i

-- nothing was held
none_held : (held : List ℕ) → held ≡ [] → 0 < length held → ⊥
none_held held e l = let n = ap length e in let z : ⊥ = omega (arith, n, l) in z

said_all : {S : Type 0} (means : Putting S) (s0 : S) (lines : List Piece) (ending : Ending) (before after : Received) → (d : Said means s0 lines ending [] before after) → Appends before.taken after.taken d.text
said_all means s0 lines ending before after d = subst (Appends before.taken after.taken) (sym (append-nil d.written) ∙ d.all) d.appended

module _ {W S O : Type 0} (line_filter : W → S) (text : W → Text) (means : Putting S) (see : O → Received) (old new : Place W O) (output diag diag_now : Received) where
  abbrev s0 : S
  s0 = line_filter old.consumer

  abbrev start : FilterStreams
  start = filter_streams old.input (see old.output) diag

  abbrev now : FilterStreams
  now = filter_streams new.input output diag_now

  abbrev Ends : List Piece → Type 0 → Ending → Ending → Type 0
  Ends pieces Early ending answer = FilterFinished means s0 pieces Early ending answer (see old.output) output

  done_by : (Early : Type 0) (answer : Ending) (t : Taken (filter_meaning line_filter text means see) 131072 ends.Ended old new) → Ends t.pieces Early endings.Done answer → Filtered means s0 answer start now
  done_by Early answer t (inr b) =
      stopped_cut means s0 Early (λ e. e ≡ endings.Done) answer t.pieces start now (ended_read (filter_meaning line_filter text means see) old new (see old.output) output diag diag_now t) t.given (ended_got (filter_meaning line_filter text means see) old new (see old.output) output diag diag_now t) (λ x. t.ends.no_fault)
      (rightly_done start now t.given t.pieces (ended_all (filter_meaning line_filter text means see) old new (see old.output) output diag diag_now t) t.ends.all t.ends.no_fault) b.0 b.1
  done_by Early answer t (inl d) = subst (λ (x : Ending). Filtered means s0 x start now) (sym d.0) (record {
    got = t.given;
    reads = record { given = t.gave.given; left = t.gave.left };
    all = ended_all (filter_meaning line_filter text means see) old new (see old.output) output diag diag_now t;
    text = d.1.text;
    says = subst (λ (ls : List Piece). means.says s0 ls endings.Done d.1.text) t.ends.all d.1.says;
    written = said_all means s0 t.pieces endings.Done (see old.output) output d.1;
  })

  -- a line is to blame
  blamed_by : (Early : Type 0) (verdict answer : Ending) → IsOfLine verdict → (t : Taken (filter_meaning line_filter text means see) 131072 ends.Ended old new) → Ends t.pieces Early verdict answer → Filtered means s0 answer start now
  blamed_by Early verdict answer i t (inr b) =
      stopped_cut means s0 Early (λ e. e ≡ verdict) answer t.pieces start now (ended_read (filter_meaning line_filter text means see) old new (see old.output) output diag diag_now t) t.given (ended_got (filter_meaning line_filter text means see) old new (see old.output) output diag diag_now t) (λ x. t.ends.no_fault)
      (λ e same. subst (EndsRightly start now t.given t.pieces) (sym same) (rightly_line start now t.given t.pieces t.ends.no_fault verdict i)) b.0 b.1
  blamed_by Early verdict answer i t (inl d) = subst (λ (x : Ending). Filtered means s0 x start now) (sym d.0) (to_line means s0 start now verdict i (record {
    lines = t.pieces;
    read = ended_read (filter_meaning line_filter text means see) old new (see old.output) output diag diag_now t;
    text = d.1.text;
    says = d.1.says;
    written = said_all means s0 t.pieces verdict (see old.output) output d.1;
  }))

  abbrev Comes : List Piece → Ending → Ending → Type 0
  Comes pieces ending answer = FilterEnded means s0 pieces (text new.consumer).text ending answer (see old.output) output

  -- something was held
  abbrev HasHeld : Type 0
  HasHeld = 0 < length (text new.consumer).text

  pub go_ended : (answer : Ending) (t : Taken (filter_meaning line_filter text means see) 131072 ends.Ended old new) → Comes t.pieces endings.Done answer → Filtered means s0 answer start now
  go_ended answer t e = by e.is_verdict where
    by : IsVerdict endings.Done e.verdict → Filtered means s0 answer start now
    by (inl same) = done_by HasHeld answer t (subst (λ (v : Ending). Ends t.pieces HasHeld v answer) same e.finished)
    by (inr w) = blamed_by HasHeld e.verdict answer w.1 t e.finished

  -- all whole lines were taken
  read_of : (given : List ℕ) (pieces : List Piece) → SourceGave old.input new.input given → pieces ≡ whole 131072 given → AreRead start now pieces
  read_of given pieces gave all = whole_read (filter_meaning line_filter text means see) old new (see old.output) output diag diag_now given pieces gave all

  read_got : (given : List ℕ) (pieces : List Piece) (gave : SourceGave old.input new.input given) (all : pieces ≡ whole 131072 given) → (read_of given pieces gave all).got ≡ given
  unfolding read_of
  read_got given pieces gave all = whole_got (filter_meaning line_filter text means see) old new (see old.output) output diag diag_now given pieces gave all

  whole_written : (ending : Ending) (least : ℕ) (given : List ℕ) (pieces : List Piece) → SourceGave old.input new.input given → pieces ≡ whole 131072 given → least ≤ length given
      → Said means s0 pieces ending [] (see old.output) output → WroteWhole means s0 ending least start now
  whole_written ending least given pieces gave all l d = record {
    got = given;
    reads = record { given = gave.given; left = gave.left };
    least_is = l;
    first = subst (AreFirst old.input.left) all (read_of given pieces gave all).of_left;
    text = d.text;
    says = subst (λ (ls : List Piece). means.says s0 ls ending d.text) all d.says;
    written = said_all means s0 pieces ending (see old.output) output d;
  }

  -- nothing is held if a read failed
  go_failed_by : (answer : Ending) (t : Taken (filter_meaning line_filter text means see) 131072 ends.ReadFailed old new) → Ends t.pieces HasHeld endings.ReadingFailed answer → Filtered means s0 answer start now
  go_failed_by answer t (inr b) =
      stopped_cut means s0 HasHeld (λ e. e ≡ endings.ReadingFailed) answer t.pieces start now (read_of t.given t.pieces t.gave t.ends.all) t.given (read_got t.given t.pieces t.gave t.ends.all) (λ held. absurd (none_held (text new.consumer).text t.ends.written held))
      (rightly_failed start now t.given t.pieces t.ends.all t.ends.fault) b.0 b.1
  go_failed_by answer t (inl d) = subst (λ (x : Ending). Filtered means s0 x start now) (sym d.0) (whole_written endings.ReadingFailed 0 t.given t.pieces t.gave t.ends.all (omega arith) d.1)

  go_endless_by : (answer : Ending) (t : Taken (filter_meaning line_filter text means see) 131072 ends.Endless old new) → Ends t.pieces HasHeld endings.TooLong answer → Filtered means s0 answer start now
  go_endless_by answer t (inr b) =
      stopped_cut means s0 HasHeld (λ e. e ≡ endings.TooLong) answer t.pieces start now (read_of t.given t.pieces t.gave t.ends.all) t.given (read_got t.given t.pieces t.gave t.ends.all) (λ held. t.ends.no_fault)
      (rightly_long start now t.given t.pieces t.ends.all t.ends.many t.ends.no_fault) b.0 b.1
  go_endless_by answer t (inl d) = subst (λ (x : Ending). Filtered means s0 x start now) (sym d.0) (whole_written endings.TooLong 4294967296 t.given t.pieces t.gave t.ends.all t.ends.many d.1)

  pub go_failed : (answer : Ending) (t : Taken (filter_meaning line_filter text means see) 131072 ends.ReadFailed old new) → Comes t.pieces endings.ReadingFailed answer → Filtered means s0 answer start now
  go_failed answer t e = go_failed_by answer t (subst (λ (v : Ending). Ends t.pieces HasHeld v answer) (same_end endings.ReadingFailed e.verdict (λ x. cc) e.is_verdict) e.finished)

  pub go_endless : (answer : Ending) (t : Taken (filter_meaning line_filter text means see) 131072 ends.Endless old new) → Comes t.pieces endings.TooLong answer → Filtered means s0 answer start now
  go_endless answer t e = go_endless_by answer t (subst (λ (v : Ending). Ends t.pieces HasHeld v answer) (same_end endings.TooLong e.verdict (λ x. cc) e.is_verdict) e.finished)

  -- no more lines were taken
  pub go_left : (ending answer : Ending) (t : Taken (filter_meaning line_filter text means see) 131072 (ends.Stopped ending) old new) → FilterLeft means s0 t.pieces ending answer (see old.output) output → Filtered means s0 answer start now
  go_left ending answer t (inr b) =
      stopped_cut means s0 ⊤ IsOfLine answer t.pieces start now (stopped_read (filter_meaning line_filter text means see) old new (see old.output) output diag diag_now ending t) t.given (stopped_got (filter_meaning line_filter text means see) old new (see old.output) output diag diag_now ending t) (λ x. t.ends.no_fault)
      (rightly_line start now t.given t.pieces t.ends.no_fault) b.0 b.1
  go_left ending answer t (inl d) = subst (λ (x : Ending). Filtered means s0 x start now) (sym d.0) (to_line means s0 start now ending d.1 (record {
    lines = t.pieces;
    read = stopped_read (filter_meaning line_filter text means see) old new (see old.output) output diag diag_now ending t;
    text = d.2.text;
    says = d.2.says;
    written = said_all means s0 t.pieces ending (see old.output) output d.2;
  }))

no_cut : (e : Ending) → IsOfLine e → e ≡ endings.WritingFailed → ⊥
no_cut e i h = subst IsOfLine h i

no_reading : (e : Ending) → IsOfLine e → e ≡ endings.ReadingFailed → ⊥
no_reading e i h = subst IsOfLine h i

-- why it ended
pub causes_left : {S : Type 0} (means : Putting S) (s0 : S) (pieces : List Piece) (ending answer : Ending) (input input_now : Supplied) (output output_now : Received) → FilterLeft means s0 pieces ending answer output output_now
    → input_now.faults ≡ input.faults → Causes answer input input_now output output_now
causes_left means s0 pieces ending answer input input_now output output_now (inl d) s = record {
  reading = λ x. absurd (no_reading ending d.1 (sym d.0 ∙ x));
  writing = λ x. absurd (no_cut ending d.1 (sym d.0 ∙ x));
  read = λ a b. s;
  written = λ a. d.2.no_failure;
}
causes_left means s0 pieces ending answer input input_now output output_now (inr b) s = record {
  reading = λ x. let y = sym b.0 ∙ x in cc;
  writing = λ x. b.1.failure;
  read = λ a c. absurd (c b.0);
  written = λ a. absurd (a b.0);
}

finished_causes : {S : Type 0} (means : Putting S) (s0 : S) (pieces : List Piece) (Early : Type 0) (ending answer : Ending) (input input_now : Supplied) (output output_now : Received) → FilterFinished means s0 pieces Early ending answer output output_now
    → (ending ≡ endings.ReadingFailed → Rose input.faults input_now.faults) → (ending ≢ endings.ReadingFailed → input_now.faults ≡ input.faults) → ending ≢ endings.WritingFailed → Causes answer input input_now output output_now
finished_causes means s0 pieces Early ending answer input input_now output output_now (inl d) r s n = record {
  reading = λ x. r (sym d.0 ∙ x);
  writing = λ x. absurd (n (sym d.0 ∙ x));
  read = λ a b. s (λ x. a (d.0 ∙ x));
  written = λ a. d.1.no_failure;
}
finished_causes means s0 pieces Early ending answer input input_now output output_now (inr b) r s n = record {
  reading = λ x. let y = sym b.0 ∙ x in cc;
  writing = λ x. b.1.failure;
  read = λ a c. absurd (c b.0);
  written = λ a. absurd (a b.0);
}

pub causes_by : {S : Type 0} (means : Putting S) (s0 : S) (pieces : List Piece) (held : List ℕ) (ending answer : Ending) (input input_now : Supplied) (output output_now : Received) → FilterEnded means s0 pieces held ending answer output output_now
    → (ending ≡ endings.ReadingFailed → Rose input.faults input_now.faults) → (ending ≢ endings.ReadingFailed → input_now.faults ≡ input.faults) → ending ≢ endings.WritingFailed → Causes answer input input_now output output_now
causes_by means s0 pieces held ending answer input input_now output output_now e r s n = by e.is_verdict where
  by : IsVerdict ending e.verdict → Causes answer input input_now output output_now
  by (inl same) =
      finished_causes means s0 pieces (0 < length held) e.verdict answer input input_now output output_now e.finished (λ x. r (sym same ∙ x)) (λ x. s (λ y. x (same ∙ y))) (λ x. n (sym same ∙ x))
  by (inr w) =
      finished_causes means s0 pieces (0 < length held) e.verdict answer input input_now output output_now e.finished (λ x. absurd (no_reading e.verdict w.1 x)) (λ x. s (λ y. let z = sym w.0 ∙ y in cc)) (no_cut e.verdict w.1)

pub ended : {S : Type 0} (means : Putting S) (s0 : S) (untouched : Type 0) (e : Ending) (start now : FilterStreams) → Filtered means s0 e start now → FilterEndsBy means s0 untouched e start now
ended means s0 untouched endings.NoMemory start now x = absurd x
ended means s0 untouched e start now x = x
