-- A report as it grows, line by line.
use Rattle.std.specs.Prelude.{◌≡◌, ℕ, ◌+◌, List, [], ◌∷◌, ◌++◌, length, Option, Some, None}
use Rattle.line_io.specs.Lines.{Piece}
use Rattle.line_io.specs.Out.{Text, with}
use Rattle.replay_command_base.specs.declared.ending.Ending.{Ending}
use Rattle.replay_command_base.specs.Putting.{IsOfLine}
use Rattle.session_judge.specs.declared.listener.Listener.{Listener}
use Rattle.session_judge.specs.declared.talk.JudgedTalk.{JudgedTalk}
use Rattle.judge_report.specs.Reports.{report, last_lines}

-- These lines were read, and more may be: the talk then, and the text of the report so far.
pub record ReportSoFar (listener : Listener) (lines : List Piece) (t : JudgedTalk)
    (text : List ℕ) : Type 0 where
  pub talk_is : (report listener lines).talk ≡ t
  pub text_is : (report listener lines).text ≡ text
  pub goes_on : (report listener lines).ending ≡ None

-- The last of these lines is the reason to end, and this is the text of the report.
pub record ReportStops (listener : Listener) (lines : List Piece) (ending : Ending)
    (text : List ℕ) : Type 0 where
  pub of_line : IsOfLine ending
  pub ends : (report listener lines).ending ≡ Some ending
  pub text_is : (report listener lines).text ≡ text

-- All lines were read, and this is the text of the report, if it ends so.
pub record ReportCloses (listener : Listener) (lines : List Piece) (ending : Ending)
    (text : List ℕ) : Type 0 where
  pub goes_on : (report listener lines).ending ≡ None
  pub text_is :
      (report listener lines).text ++ last_lines (report listener lines).talk ending ≡ text

abbrev pub ReportComesTo : Listener → List Piece → Option Ending → JudgedTalk → List ℕ → Type 0
ReportComesTo listener lines None t text = ReportSoFar listener lines t text
ReportComesTo listener lines (Some ending) t text = ReportStops listener lines ending text

-- Whatever lines were read, one more was, of the next number, and this was put for it.
pub record ReportReads (number : ℕ) (piece : Piece) (result : Option Ending) (t t' : JudgedTalk)
    (held held' : Text) : Type 0 where
  pub more : List ℕ
  pub put : held' ≡ with held more
  pub goes : (listener : Listener) (lines : List Piece) (text : List ℕ)
      → ReportSoFar listener lines t text
      → number ≡ length lines + 1 → ReportComesTo listener (lines ++ piece ∷ []) result t' (text ++ more)

-- Whatever lines were read, no more are, and this was put last.
pub record ReportEnds (ending : Ending) (t : JudgedTalk) (held held' : Text) : Type 0 where
  pub more : List ℕ
  pub put : held' ≡ with held more
  pub goes : (listener : Listener) (lines : List Piece) (text : List ℕ)
      → ReportSoFar listener lines t text
      → ReportCloses listener lines ending (text ++ more)
