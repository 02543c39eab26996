-- The meaning of the status of the command `positions`.
use Rattle.std.proofs.Common.{◌≡◌, ◌⊎◌, inl, inr, ℕ, ◌^◌, List, take, Option, None, Some, refl, subst, ◌∙◌}
use Rattle.std.specs.Io.KnownBytes.{Appends}
use Rattle.line_io.specs.Lines.{Piece, items}
use Rattle.line_io.specs.Runs.{whole}
use Rattle.policy_rules.specs.SettingRules.Policy.{IsProper}
use Rattle.policy_rules.specs.declared.setting_rules.settings.Settings.{Settings}
use Rattle.adapter_core.specs.Trace.{Step}
use Rattle.replay_command_base.specs.declared.ending.Ending.{Ending}
use Rattle.replay_command_base.specs.declared.ending.Ending.TheVariants as endings
use Rattle.replay_command_base.specs.Diagnostics.{tail_of}
use Rattle.replay_command_base.specs.Ran.{FilterRan}
use Rattle.replay_command_base.specs.Streams.{FilterStreams, AreSame}
use Rattle.replay_command_base.specs.DiagnosticWritten.{DiagnosticWritten}
use Rattle.replay_command_base.proofs.Outcomes.{memory_ran}
use Rattle.replay_command_base.specs.Filtered.{FilterEndsBy}
use Rattle.replay_command_base.specs.Outcomes.{FailsToWrite}
use Rattle.session_export.specs.Exporting.{text_due, text_due_for}
use Rattle.session_export.specs.Outcomes.{AllExported, ExportedToFault, PrefixExported, SessionOutcome, WholeExported, WritesText}
use Rattle.session_export.specs.Writing.{WriterIsUnused}
use Rattle.session_export.proofs.Outcomes.{session_outcome, unused_fresh}
use Rattle.session_export.specs.PositionExports.{PositionWriter, new_position_writer, exports_positions, text_of_lines, writes_positions}
use Rattle.session_export.specs.PositionsWritten.{AllPositionsWritten, PositionsFaultReported, PositionsPrefixWritten, PositionsOfLongInput, PositionsWritten, WholePositionsWritten, WritesPositions}
use Rattle.session_export.proofs.PositionTexts.{text_ended, text_exported}

module _ (o : Settings) (w0 : PositionWriter) (is_new : w0 ≡ new_position_writer o) (unused : WriterIsUnused exports_positions o w0) (Unread Kept : Type 0) (start now : FilterStreams) (code : ℕ) (ran : FilterRan (λ e. FilterEndsBy writes_positions w0 (Unread × Kept) e start now) start now code) where
  out : SessionOutcome exports_positions o (Unread × Kept) start now code
  out = session_outcome exports_positions o w0 unused (Unread × Kept) start now code ran

  abbrev Wrote : List ℕ → Type 0
  Wrote text = Appends start.output.taken now.output.taken text

  -- the text that was written is that of positions
  positions_by : (text_of : Settings → List Piece → List Step → List ℕ) (lines : List Piece) → ((trace : List Step) → text_of o lines trace ≡ text_of_lines o lines trace)
      → WritesText text_of o start now lines → WritesPositions o start now lines
  positions_by text_of lines same w = record { trace = w.trace; session = w.session; written = subst Wrote (same w.trace) w.written }

  all_by : AllExported exports_positions o start now → AreSame start now → AllPositionsWritten o start now
  all_by w s = record {
    got = w.got;
    reads = w.reads;
    all_read = w.all_read;
    faultless = w.faultless;
    positions = positions_by _ (items 131072 w.got) (text_ended o (items 131072 w.got)) w.text;
    no_failure = s;
  }

  reported : ExportedToFault exports_positions o start now → PositionsFaultReported o start now
  reported w = record {
    fault = w.fault;
    announced = w.announced;
    lines = w.lines;
    read = w.read;
    is_fault = w.is_fault;
    positions = positions_by _ w.lines (text_exported o w.lines) w.text;
  }

  broken_by : WholeExported exports_positions endings.ReadingFailed 0 o start now → WholePositionsWritten o start now
  broken_by w = record {
    got = w.got;
    reads = w.reads;
    first = w.first;
    faultless = w.faultless;
    positions = positions_by _ (whole 131072 w.got) (text_ended o (whole 131072 w.got)) w.text;
  }

  much_by : WholeExported exports_positions endings.TooLong (2 ^ 32) o start now → PositionsOfLongInput o start now
  much_by w = record {
    positions = record {
      got = w.got;
      reads = w.reads;
      first = w.first;
      faultless = w.faultless;
      positions = positions_by _ (whole 131072 w.got) (text_ended o (whole 131072 w.got)) w.text;
    };
    least = w.least_is;
  }

  -- a text that is due is that of all positions
  due_announced : (lines : List Piece) (trace : List Step) (ending : Ending) → text_due exports_positions ending o lines trace ≡ text_of_lines o lines trace
  due_announced lines trace endings.Done = text_ended o lines trace
  due_announced lines trace endings.ReadingFailed = text_ended o lines trace
  due_announced lines trace endings.TooLong = text_ended o lines trace
  due_announced lines trace ending = text_exported o lines trace

  for_announced : (lines : List Piece) (trace : List Step) (why : Option Ending) → text_due_for exports_positions why o lines trace ≡ text_of_lines o lines trace
  for_announced lines trace None = text_exported o lines trace
  for_announced lines trace (Some ending) = due_announced lines trace ending

  fails_by : (lines : List Piece) (trace : List Step) (why : Option Ending) → FailsToWrite (λ ending. text_due exports_positions ending o lines trace) why start now → FailsToWrite (λ ending. text_of_lines o lines trace) why start now
  fails_by lines trace why (inl r) = inl r
  fails_by lines trace why (inr d) = inr (record {
    ending = d.ending;
    is_why = d.is_why;
    written = subst Wrote (due_announced lines trace d.ending) d.written;
    no_failure = d.no_failure;
    failure = d.failure;
  })

  prefix_by : PrefixExported exports_positions o start now → PositionsPrefixWritten o start now
  prefix_by w = record {
    lines = w.lines;
    read = w.read;
    why = w.why;
    reason = w.reason;
    fault = w.fault;
    trace = w.trace;
    session = w.session;
    due = fails_by w.lines w.trace w.why w.due;
    prefix = w.prefix;
    written = subst (λ (t : List ℕ). Wrote (take w.prefix t)) (for_announced w.lines w.trace w.why) w.written;
  }

  part : (Unread × Kept) ⊎ PrefixExported exports_positions o start now → (Unread × Kept) ⊎ PositionsPrefixWritten o start now
  part (inl u) = inl u
  part (inr w) = inr (prefix_by w)

  pub positions_written : PositionsWritten o Unread Kept start now code
  positions_written = record {
    ended = subst (λ (w : PositionWriter). FilterRan (λ e. FilterEndsBy writes_positions w (Unread × Kept) e start now) start now code) is_new ran;
    all_written = λ z. let w = out.all_announced z in all_by w.0 w.1;
    no_other = out.no_other;
    fault_reported = λ z. reported (out.fault_announced z);
    memory = out.memory;
    reading_failed = λ z. let w = out.reading_failed z in (w.0, broken_by w.1);
    writing_failed = λ z. let w = out.writing_failed z in (w.0, part w.1);
    too_long = λ z. much_by (out.too_long z);
    complete = out.complete;
    faults_announced = out.faults_announced;
  }

-- WANT OF MEMORY

pub want_of_memory : (o : Settings) → IsProper o → (Unread Kept : Type 0) (start now : FilterStreams) (code : ℕ) → Unread → Kept → now.input ≡ start.input → now.output ≡ start.output
    → DiagnosticWritten code 3 (tail_of endings.NoMemory) start.diag now.diag → PositionsWritten o Unread Kept start now code
want_of_memory o proper Unread Kept start now code unread kept i u t =
    positions_written o (new_position_writer o) refl (unused_fresh exports_positions o proper (refl, refl)) Unread Kept start now code (memory_ran writes_positions (new_position_writer o) (Unread × Kept) start now code (unread, kept) i u t)
