-- The report on the lines of a log.
use Rattle.std.specs.Prelude.{◌≡◌, ℕ, ◌+◌, ◌==◌, ◌&&◌, ◌||◌, List, [], ◌∷◌, ◌++◌}
use Rattle.std.specs.Prelude.{Bool, is_some, if◌then◌else◌, Option, Some, None}
use Rattle.line_io.specs.Lines.{Piece, Whole, TooLong}
use Rattle.script_lines.specs.Header.{header_of}
use Rattle.script_lines.specs.Marks.{Mark, mark_spelled}
use Rattle.script_lines.specs.StepLine.{step_of}
use Rattle.replay_command_base.specs.declared.ending.Ending.{Ending}
use Rattle.replay_command_base.specs.declared.ending.Ending.TheVariants as endings
use Rattle.session_judge.specs.declared.listener.Listener.{Listener}
use Rattle.session_judge.specs.declared.dialogue_event.OrderKind.TheVariants as orders
use Rattle.session_judge.specs.declared.dialogue_event.DialogueEvent.{DialogueEvent}
use Rattle.session_judge.specs.declared.dialogue_event.DialogueEvent.TheVariants as dialogue_events
use Rattle.session_judge.specs.declared.rule.Rule.{Rule}
use Rattle.session_judge.specs.declared.search.Search.{Search}
use Rattle.session_judge.specs.declared.talk.JudgedTalk.{JudgedTalk}
use Rattle.session_judge.specs.DialogueEvents.{dialogue_event_of}
use Rattle.session_judge.specs.Rules.{broken}
use Rattle.session_judge.specs.Talks.{judgement_after, opening_judgement}
use Rattle.judge_report.specs.Texts.{search_report, crossings_line, lawful_line, unlawful_line}

-- the kind of a line of a log: a mark, a line that is ignored, or neither
pub data LogLineKind : Type 0 where
  Marks : (mark : Mark) → LogLineKind
  Passes : LogLineKind
  HasNone : LogLineKind

-- step lines are ignored, and a header in line 1
abbrev pub is_passed : ℕ → List ℕ → Bool
is_passed number line = is_some (step_of line) || (number == 1 && is_some (header_of line))

abbrev pub log_line_kind_by : Option Mark → Bool → LogLineKind
log_line_kind_by (Some mark) passed = Marks mark
log_line_kind_by None passed = if passed then Passes else HasNone

abbrev pub kind_of_log_line : ℕ → Piece → LogLineKind
kind_of_log_line number (Whole line) = log_line_kind_by (mark_spelled line) (is_passed number line)
kind_of_log_line number TooLong = HasNone

-- the outcome of a line: the talk then, the text that is written for it, and whether it is the last
pub record LineOutcome : Type 0 where
  pub talk : JudgedTalk
  pub more : List ℕ
  pub ending : Option Ending

-- A `go` brings out the line of the search before it.
abbrev pub brought_out : Option Search → DialogueEvent → List ℕ
brought_out search (dialogue_events.Writes (orders.Go kind)) = search_report search
brought_out search dialogue_event = []

-- the text before the last line: the line of the last search, and how many orders crossed
abbrev pub report_before_end : JudgedTalk → List ℕ
report_before_end t = search_report t.search ++ crossings_line t.crossings

abbrev pub of_dialogue_event : JudgedTalk → ℕ → DialogueEvent → Option Rule → LineOutcome
of_dialogue_event t number dialogue_event None = record {
  talk = judgement_after t number dialogue_event;
  more = brought_out t.search dialogue_event;
  ending = None;
}
of_dialogue_event t number dialogue_event (Some rule) =
    record {
      talk = t;
      more = report_before_end t ++ unlawful_line number rule;
      ending = Some (endings.Unlawful number);
    }

abbrev pub of_kind : JudgedTalk → ℕ → LogLineKind → LineOutcome
of_kind t number (Marks mark) = of_dialogue_event t number (dialogue_event_of mark) (broken t (dialogue_event_of mark))
of_kind t number Passes = record { talk = t; more = []; ending = None }
of_kind t number HasNone = record { talk = t; more = []; ending = Some (endings.NoMark number) }

-- the report so far: the talk, what was written, and why no more lines are read
pub record ReportCourse : Type 0 where
  pub talk : JudgedTalk
  pub text : List ℕ
  pub ending : Option Ending

abbrev pub with_outcome : ReportCourse → LineOutcome → ReportCourse
with_outcome c o = record { talk = o.talk; text = c.text ++ o.more; ending = o.ending }

abbrev pub read_on : Option Ending → ReportCourse → ℕ → Piece → ReportCourse
read_on (Some ending) c number piece = c
read_on None c number piece = with_outcome c (of_kind c.talk number (kind_of_log_line number piece))

-- the report on these lines, of which the first has this number
abbrev pub over : ReportCourse → ℕ → List Piece → ReportCourse
over c number [] = c
over c number (piece ∷ pieces) = over (read_on c.ending c number piece) (number + 1) pieces

-- the report on the lines of a log that this one wrote
abbrev pub report : Listener → List Piece → ReportCourse
report listener lines = over (record { talk = opening_judgement listener; text = []; ending = None }) 1 lines

-- the text at the end of the input; nothing is written if it was not read to its end
abbrev pub last_lines : JudgedTalk → Ending → List ℕ
last_lines t endings.Done = report_before_end t ++ lawful_line
last_lines t ending = []
