-- The report on an engine's conduct in the lines of a log.
use Rattle.std.specs.Prelude.{◌≡◌, ◌⊎◌, ⊤, ℕ, ◌+◌, nat_lt, List, [], ◌∷◌, ◌++◌, if◌then◌else◌}
use Rattle.std.specs.Prelude.{Option, Some, None}
use Rattle.line_io.specs.Lines.{Piece}
use Rattle.script_lines.specs.Marks.{Mark}
use Rattle.replay_command_base.specs.declared.ending.Ending.{Ending}
use Rattle.replay_command_base.specs.declared.ending.Ending.TheVariants as endings
use Rattle.replay_command_base.specs.Outcomes.{Outcome}
use Rattle.replay_command_base.specs.Putting.{Putting}
use Rattle.replay_command_base.specs.Streams.{FilterStreams}
use Rattle.session_judge.specs.Crossings.{next_search_number}
use Rattle.session_judge.specs.declared.listener.Listener.{Listener}
use Rattle.engine_conduct.specs.declared.rule.ConductFault.{ConductFault}
use Rattle.engine_conduct.specs.Conduct.{Conduct, conduct, conduct_after, fault_of_mark, unjudged_from}
use Rattle.judge_report.specs.ConductTexts.{conduct_last_lines, fault_report}
use Rattle.judge_report.specs.Reports.{LogLineKind, Marks, Passes, HasNone, kind_of_log_line}

-- what was heard of an engine, how many lines were blamed, and which one last
pub record Tally : Type 0 where
  pub conduct : Conduct
  pub faults : ℕ
  pub last : ℕ

abbrev pub no_tally : Listener → Tally
no_tally listener = record { conduct = conduct listener []; faults = 0; last = 0 }

abbrev pub counted : Tally → Option ConductFault → Tally
counted t None = t
counted t (Some f) = record { conduct = t.conduct; faults = next_search_number t.faults; last = f.line }

-- the fault that a mark is, in the line with this number
abbrev pub mark_fault : Tally → ℕ → Mark → Option ConductFault
mark_fault t number mark = fault_of_mark t.conduct number mark

abbrev pub heard_by_tally : Tally → Conduct → Tally
heard_by_tally t c = record { conduct = c; faults = t.faults; last = t.last }

abbrev pub tally_after : Tally → ℕ → Mark → Tally
tally_after t number mark =
    counted (heard_by_tally t (conduct_after t.conduct number mark)) (mark_fault t number mark)

-- what comes of a line
pub record TallyOutcome : Type 0 where
  pub tally : Tally
  pub more : List ℕ
  pub ending : Option Ending

abbrev pub of_conduct_line : Tally → ℕ → LogLineKind → TallyOutcome
of_conduct_line t number (Marks mark) =
    record { tally = tally_after t number mark; more = fault_report (mark_fault t number mark); ending = None }
of_conduct_line t number Passes = record { tally = t; more = []; ending = None }
of_conduct_line t number HasNone = record { tally = t; more = []; ending = Some (endings.NoMark number) }

-- the report so far, and why no more lines are read
pub record ConductCourse : Type 0 where
  pub tally : Tally
  pub text : List ℕ
  pub ending : Option Ending

abbrev pub with_tally : ConductCourse → TallyOutcome → ConductCourse
with_tally c o = record { tally = o.tally; text = c.text ++ o.more; ending = o.ending }

abbrev pub conduct_read_on : Option Ending → ConductCourse → ℕ → Piece → ConductCourse
conduct_read_on (Some ending) c number piece = c
conduct_read_on None c number piece = with_tally c (of_conduct_line c.tally number (kind_of_log_line number piece))

-- the report on these lines, of which the first has this number
abbrev pub conduct_over : ConductCourse → ℕ → List Piece → ConductCourse
conduct_over c number [] = c
conduct_over c number (piece ∷ pieces) = conduct_over (conduct_read_on c.ending c number piece) (number + 1) pieces

-- the report on the lines of a log, from its first on
abbrev pub conduct_report : Tally → List Piece → ConductCourse
conduct_report t lines = conduct_over (record { tally = t; text = []; ending = None }) 1 lines

-- how a run ends: by the line that was blamed last, if all was read and one was
abbrev pub conduct_verdict : Tally → Ending → Ending
conduct_verdict t endings.Done = if nat_lt 0 t.faults then endings.Unlawful t.last else endings.Done
conduct_verdict t ending = ending

-- what is written at the end of the input; nothing is written if it was not read to its end
abbrev pub conduct_end : Tally → Ending → List ℕ
conduct_end t endings.Done =
    conduct_last_lines (unjudged_from t.conduct.known.hearing) t.conduct.known.unplaced t.faults
conduct_end t ending = []

-- These lines were read, and more may be: the tally then, and the text so far.
pub record ConductSoFar (first : Tally) (lines : List Piece) (t : Tally) (text : List ℕ) : Type 0 where
  pub tally_is : (conduct_report first lines).tally ≡ t
  pub text_is : (conduct_report first lines).text ≡ text
  pub goes_on : (conduct_report first lines).ending ≡ None

-- The last of these lines is the reason to end.
pub record ConductStops (first : Tally) (lines : List Piece) (ending : Ending) (text : List ℕ) : Type 0 where
  pub ends : (conduct_report first lines).ending ≡ Some ending
  pub text_is : (conduct_report first lines).text ≡ text

-- All lines were read, and the input ended so: this is the verdict, and the text of the report.
pub record ConductCloses (first : Tally) (lines : List Piece) (verdict : Ending) (text : List ℕ) : Type 0 where
  pub ending : Ending
  pub goes_on : (conduct_report first lines).ending ≡ None
  pub verdict_is : conduct_verdict (conduct_report first lines).tally ending ≡ verdict
  pub text_is : (conduct_report first lines).text ++ conduct_end (conduct_report first lines).tally ending ≡ text

-- what a report on an engine's conduct puts
abbrev pub blames : Putting Tally
blames = record {
  put = ConductSoFar;
  says = λ first lines ending text. ConductStops first lines ending text ⊎ ConductCloses first lines ending text;
  may = λ t. ⊤;
}

-- An engine's conduct is judged, in the log that this one wrote.
abbrev pub ConductJudged : Listener → Type 0 → FilterStreams → FilterStreams → ℕ → Type 0
ConductJudged listener Untouched before after code =
    Outcome blames (no_tally listener) Untouched before after code
