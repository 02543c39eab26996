-- The promise of the command `judge`.
use Rattle.std.specs.Prelude.{◌≡◌, ◌⊎◌, ℕ, ◌^◌, ◌≤◌, ◌<◌, List, ◌++◌, length, Option, Some, None}
use Rattle.std.specs.Io.KnownBytes.{Appends}
use Rattle.line_io.specs.Causes.{Rose}
use Rattle.line_io.specs.Lines.{Piece, items}
use Rattle.line_io.specs.Runs.{whole}
use Rattle.line_io.specs.Source.{TakesPrefix}
use Rattle.replay_command_base.specs.declared.ending.Ending.{Ending}
use Rattle.replay_command_base.specs.declared.ending.Ending.TheVariants as endings
use Rattle.replay_command_base.specs.Diagnostics.{command_status, command_diagnostic}
use Rattle.replay_command_base.specs.Ran.{FilterRan, WritingBroke}
use Rattle.replay_command_base.specs.Reads.{Got, IsAll, AreFirst, AreRead}
use Rattle.replay_command_base.specs.Streams.{FilterStreams, AreSame, HasNoFault}
use Rattle.replay_command_base.specs.Filtered.{AreAll, EndsFor, FilterEndsBy}
use Rattle.replay_command_base.specs.Outcomes.{FailsToWrite}
use Rattle.replay_command_base.specs.Putting.{reason_of_line}
use Rattle.session_judge.specs.declared.listener.Listener.{Listener}
use Rattle.session_judge.specs.Talks.{opening_judgement}
use Rattle.judge_report.specs.Reports.{ReportCourse, report, last_lines}
use Rattle.judge_report.specs.Judging.{judges}
use Rattle.line_io.specs.declared.limits.TheConstants.{SCRIPT_LINE}

-- the report on these lines, with what is written last if it ends so
abbrev pub whole_report : Listener → List Piece → Ending → List ℕ
whole_report listener lines ending =
    (report listener lines).text ++ last_lines (report listener lines).talk ending

-- the report that is due for these lines, if they are a whole log: up to the line that is a fault,
-- if one is, and else with what is written last
abbrev pub due_by : Option Ending → ReportCourse → List ℕ
due_by (Some fault) c = c.text
due_by None c = c.text ++ last_lines c.talk endings.Done

abbrev pub due_report : Listener → List Piece → List ℕ
due_report listener lines = due_by (report listener lines).ending (report listener lines)

-- All of the input was read, no mark of it breaks a rule and none of its lines has no mark; and the
-- report on it was written, whose last line is `lawful talk`.
pub record AllJudged (listener : Listener) (before after : FilterStreams) : Type 0 where
  pub got : List ℕ
  pub reads : Got before after got
  pub all_read : IsAll before.input.left got
  pub faultless : (report listener (items SCRIPT_LINE got)).ending ≡ None
  pub written : Appends before.output.taken after.output.taken
      (whole_report listener (items SCRIPT_LINE got) endings.Done)

-- A line has no mark, or has one that breaks a rule. The report on the lines up to it was written,
-- and what it is was reported if its status has a diagnostic.
pub record FaultFound (listener : Listener) (before after : FilterStreams) (code : ℕ) : Type 0 where
  pub fault : Ending
  pub code_is : code ≡ command_status fault
  pub lines : List Piece
  pub read : AreRead before after lines
  pub is_fault : (report listener lines).ending ≡ Some fault
  pub written : Appends before.output.taken after.output.taken (report listener lines).text
  pub announced : Appends before.diag.taken after.diag.taken (command_diagnostic fault)

-- All whole lines that were read are without a fault, and the report on them was
-- written, except what comes last.
pub record WholeJudged (listener : Listener) (ending : Ending) (least : ℕ)
    (before after : FilterStreams) : Type 0 where
  pub got : List ℕ
  pub reads : Got before after got
  pub least_is : least ≤ length got
  pub first : AreFirst before.input.left (whole SCRIPT_LINE got)
  pub faultless : (report listener (whole SCRIPT_LINE got)).ending ≡ None
  pub written : Appends before.output.taken after.output.taken
      (whole_report listener (whole SCRIPT_LINE got) ending)

-- A write failed. The output took a prefix of the report that is due for all lines of the input, of
-- which the first were read; and whatever the input tells, of the report that would be due if the
-- lines that were read were all.
pub record PrefixReported (listener : Listener) (before after : FilterStreams) : Type 0 where
  pub lines : List Piece
  pub read : AreRead before after lines
  pub why : Option Ending
  pub reason : EndsFor why before after read.got lines
  -- the last line is a fault if and only if that is why
  pub fault : (report listener lines).ending ≡ reason_of_line why
  pub due : FailsToWrite (whole_report listener lines) why before after
  pub of_read : TakesPrefix before.output.taken after.output.taken (due_report listener lines)
  pub later : List Piece
  pub all : AreAll before.input.left (lines ++ later)
  pub written : TakesPrefix before.output.taken after.output.taken
      (due_report listener (lines ++ later))

abbrev pub CompletesJudgement : Listener → FilterStreams → FilterStreams → ℕ → Type 0
CompletesJudgement listener before after code =
    (x : List ℕ) → before.input.left ≡ Some x → length x < 2 ^ 32 → HasNoFault before after
    → ((code ≡ 0) × AllJudged listener before after) ⊎ FaultFound listener before after code
    ⊎ (code ≡ 3)

-- The log that this one wrote is judged. `Untouched` says that the input and the
-- output are just as they were.
pub record Judged (listener : Listener) (Untouched : Type 0) (before after : FilterStreams)
    (code : ℕ) : Type 0 where
  pub ended : FilterRan (λ e. FilterEndsBy judges (opening_judgement listener) Untouched e before after) before after code
  -- the meaning of each status
  pub lawful : code ≡ 0 → AllJudged listener before after × AreSame before after
  pub unlawful : code ≡ 1 → FaultFound listener before after 1
  pub no_mark : code ≡ 2 → FaultFound listener before after 2
  pub memory : code ≡ 3 → Untouched
  pub reading_failed : code ≡ 4 → Rose before.input.faults after.input.faults
      × WholeJudged listener endings.ReadingFailed 0 before after
  pub writing_failed : code ≡ 5
      → WritingBroke before after × (Untouched ⊎ PrefixReported listener before after)
  pub too_long : code ≡ 6 → WholeJudged listener endings.TooLong (2 ^ 32) before after
  -- an input of fewer than 2^32 bytes is judged to its end or to its first
  -- fault, or there was no memory
  pub complete : CompletesJudgement listener before after code
