-- The meaning of the status of the command `games`.
use Rattle.std.proofs.Common.{◌≡◌, ◌⊎◌, inl, inr, ℕ, ◌^◌, List, take, Option, None, Some, refl, subst, ◌∙◌}
use Rattle.std.specs.Io.KnownBytes.{Appends}
use Rattle.line_io.specs.Lines.{Piece, items}
use Rattle.line_io.specs.Runs.{whole}
use Rattle.line_io.specs.Source.{TakesPrefix}
use Rattle.policy_rules.specs.SettingRules.Policy.{IsProper}
use Rattle.policy_rules.specs.declared.setting_rules.settings.Settings.{Settings}
use Rattle.adapter_core.specs.Trace.{Step}
use Rattle.trace_scripts.specs.Script.{events}
use Rattle.replay_command_base.specs.declared.ending.Ending.{Ending}
use Rattle.replay_command_base.specs.declared.ending.Ending.TheVariants as endings
use Rattle.replay_command_base.specs.Diagnostics.{tail_of}
use Rattle.replay_command_base.specs.Ran.{FilterRan}
use Rattle.replay_command_base.specs.Streams.{FilterStreams, AreSame}
use Rattle.replay_command_base.specs.DiagnosticWritten.{DiagnosticWritten}
use Rattle.replay_command_base.proofs.Endings.{all_items}
use Rattle.replay_command_base.proofs.Outcomes.{memory_ran}
use Rattle.replay_command_base.specs.Filtered.{EndsFor, FilterEndsBy}
use Rattle.replay_command_base.specs.Outcomes.{FailsToWrite}
use Rattle.replay_command_base.specs.Putting.{reason_of_line}
use Rattle.script_replay.specs.Versions.{script_events, script_fault, settings_by, version_in}
use Rattle.session_export.specs.Exporting.{text_due, text_due_for}
use Rattle.session_export.specs.Outcomes.{AllExported, ExportedToFault, PrefixExported, SessionOutcome, WholeExported, WritesText}
use Rattle.session_export.specs.Writing.{WriterIsUnused}
use Rattle.session_export.proofs.Outcomes.{session_outcome, unused_fresh}
use Rattle.session_export.specs.GameExports.{GameWriter, exports_games, games_due, new_game_writer, text_all, text_over, writes_games}
use Rattle.session_export.specs.GamesWritten.{AllGamesWritten, AreWhole, GamesFaultReported, GamesPrefixWritten, GamesWritten, GamesOfLongInput, WholeGamesWritten, WritesGames}
use Rattle.session_export.proofs.Stays.{first_games_stay}
use Rattle.session_export.proofs.Texts.{all_announced, cut_announced, over_announced}

module _ (o : Settings) (w0 : GameWriter) (is_new : w0 ≡ new_game_writer o) (unused : WriterIsUnused exports_games o w0) (Unread Kept : Type 0) (start now : FilterStreams) (code : ℕ) (ran : FilterRan (λ e. FilterEndsBy writes_games w0 (Unread × Kept) e start now) start now code) where
  out : SessionOutcome exports_games o (Unread × Kept) start now code
  out = session_outcome exports_games o w0 unused (Unread × Kept) start now code ran

  abbrev Wrote : List ℕ → Type 0
  Wrote text = Appends start.output.taken now.output.taken text

  -- the text that was written is that of games
  games_by : (text_of : Settings → List Piece → List Step → List ℕ) (games_of : Settings → List Step → List ℕ) (lines : List Piece)
      → ((trace : List Step) → events trace ≡ script_events lines → text_of o lines trace ≡ games_of (settings_by (version_in lines) o) trace)
      → WritesText text_of o start now lines → WritesGames games_of o start now lines
  games_by text_of games_of lines same w = record { trace = w.trace; session = w.session; written = subst Wrote (same w.trace w.session.events_are) w.written }

  all_by : AllExported exports_games o start now → AreSame start now → AllGamesWritten o start now
  all_by w s = record {
    got = w.got;
    reads = w.reads;
    all_read = w.all_read;
    faultless = w.faultless;
    games = games_by _ text_all (items 131072 w.got) (all_announced o (items 131072 w.got)) w.text;
    no_failure = s;
  }

  reported : ExportedToFault exports_games o start now → GamesFaultReported o start now
  reported w = record {
    fault = w.fault;
    announced = w.announced;
    lines = w.lines;
    read = w.read;
    is_fault = w.is_fault;
    games = games_by _ text_over w.lines (over_announced o w.lines) w.text;
  }

  broken_by : WholeExported exports_games endings.ReadingFailed 0 o start now → WholeGamesWritten o start now
  broken_by w = record {
    got = w.got;
    reads = w.reads;
    first = w.first;
    faultless = w.faultless;
    games = games_by _ text_over (whole 131072 w.got) (cut_announced o (whole 131072 w.got)) w.text;
  }

  much_by : WholeExported exports_games endings.TooLong (2 ^ 32) o start now → GamesOfLongInput o start now
  much_by w = record {
    games = record {
      got = w.got;
      reads = w.reads;
      first = w.first;
      faultless = w.faultless;
      games = games_by _ text_over (whole 131072 w.got) (cut_announced o (whole 131072 w.got)) w.text;
    };
    least = w.least_is;
  }

  -- a text that is due is that of games
  due_announced : (lines : List Piece) (trace : List Step) → events trace ≡ script_events lines → (ending : Ending) → text_due exports_games ending o lines trace ≡ games_due (settings_by (version_in lines) o) trace ending
  due_announced lines trace e endings.Done = all_announced o lines trace e
  due_announced lines trace e endings.ReadingFailed = cut_announced o lines trace e
  due_announced lines trace e endings.TooLong = cut_announced o lines trace e
  due_announced lines trace e endings.Usage = over_announced o lines trace e
  due_announced lines trace e endings.NoMemory = over_announced o lines trace e
  due_announced lines trace e endings.WritingFailed = over_announced o lines trace e
  due_announced lines trace e (endings.NoPosition f) = over_announced o lines trace e
  due_announced lines trace e (endings.Differs n) = over_announced o lines trace e
  due_announced lines trace e (endings.Unlawful n) = over_announced o lines trace e
  due_announced lines trace e (endings.NoMark n) = over_announced o lines trace e
  due_announced lines trace e (endings.OutOfStep n) = over_announced o lines trace e
  due_announced lines trace e (endings.MayNotCome n) = over_announced o lines trace e

  fails_by : (lines : List Piece) (trace : List Step) (why : Option Ending) → events trace ≡ script_events lines → FailsToWrite (λ ending. text_due exports_games ending o lines trace) why start now → FailsToWrite (games_due (settings_by (version_in lines) o) trace) why start now
  fails_by lines trace why e (inl r) = inl r
  fails_by lines trace why e (inr d) = inr (record {
    ending = d.ending;
    is_why = d.is_why;
    written = subst Wrote (due_announced lines trace e d.ending) d.written;
    no_failure = d.no_failure;
    failure = d.failure;
  })

  Takes : List ℕ → Type 0
  Takes text = TakesPrefix start.output.taken now.output.taken text

  prefix_by : PrefixExported exports_games o start now → GamesPrefixWritten o start now
  unfolding Takes
  prefix_by w = record {
    lines = w.lines;
    read = w.read;
    why = w.why;
    reason = w.reason;
    fault = w.fault;
    trace = w.trace;
    session = w.session;
    due = fails_by w.lines w.trace w.why w.session.events_are w.due;
    written = by w.why w.reason w.fault w.written;
  } where
    q : Settings
    q = settings_by (version_in w.lines) o

    over : (ending : Ending) → games_due q w.trace ending ≡ text_over q w.trace → Wrote (take w.prefix (text_due exports_games ending o w.lines w.trace)) → Takes (text_over q w.trace)
    over ending same a = (w.prefix, subst (λ (t : List ℕ). Wrote (take w.prefix t)) (due_announced w.lines w.trace w.session.events_are ending ∙ same) a)

    by : (why : Option Ending) → EndsFor why start now w.read.got w.lines → script_fault w.lines ≡ reason_of_line why → Wrote (take w.prefix (text_due_for exports_games why o w.lines w.trace)) → Takes (text_over q w.trace) ⊎ (AreWhole start w.lines × Takes (text_all q w.trace))
    by None r f a = inl (w.prefix, subst (λ (t : List ℕ). Wrote (take w.prefix t)) (over_announced o w.lines w.trace w.session.events_are) a)
    by (Some endings.Done) r f a =
        inr ((all_items start.input.left w.read.got w.lines r.last.1 r.last.0, f), (w.prefix, subst (λ (t : List ℕ). Wrote (take w.prefix t)) (all_announced o w.lines w.trace w.session.events_are) a))
    by (Some ending) r f a = inl (over ending refl a)

  part : (Unread × Kept) ⊎ PrefixExported exports_games o start now → (Unread × Kept) ⊎ GamesPrefixWritten o start now
  part (inl u) = inl u
  part (inr w) = inr (prefix_by w)

  pub games_written : GamesWritten o Unread Kept start now code
  games_written = record {
    ended = subst (λ (w : GameWriter). FilterRan (λ e. FilterEndsBy writes_games w (Unread × Kept) e start now) start now code) is_new ran;
    all_written = λ z. let w = out.all_announced z in all_by w.0 w.1;
    no_other = out.no_other;
    fault_reported = λ z. reported (out.fault_announced z);
    memory = out.memory;
    reading_failed = λ z. let w = out.reading_failed z in (w.0, broken_by w.1);
    writing_failed = λ z. let w = out.writing_failed z in (w.0, part w.1);
    first_stay = first_games_stay o;
    too_long = λ z. much_by (out.too_long z);
    complete = out.complete;
    faults_announced = out.faults_announced;
  }

-- WANT OF MEMORY

pub want_of_memory : (o : Settings) → IsProper o → (Unread Kept : Type 0) (start now : FilterStreams) (code : ℕ) → Unread → Kept → now.input ≡ start.input → now.output ≡ start.output
    → DiagnosticWritten code 3 (tail_of endings.NoMemory) start.diag now.diag → GamesWritten o Unread Kept start now code
want_of_memory o proper Unread Kept start now code unread kept i u t =
    games_written o (new_game_writer o) refl (unused_fresh exports_games o proper refl) Unread Kept start now code (memory_ran writes_games (new_game_writer o) (Unread × Kept) start now code (unread, kept) i u t)
