-- The report of a judge as what a line filter puts.
use Rattle.std.specs.Prelude.{◌≡◌, ◌⊎◌, ⊤, ℕ, List}
use Rattle.line_io.specs.Lines.{Piece}
use Rattle.replay_command_base.specs.declared.ending.Ending.{Ending}
use Rattle.replay_command_base.specs.Putting.{Putting, IsOfLine}
use Rattle.session_judge.specs.declared.listener.Listener.{Listener}
use Rattle.session_judge.specs.declared.talk.JudgedTalk.{JudgedTalk}
use Rattle.session_judge.specs.Talks.{opening_judgement}
use Rattle.judge_report.specs.Reads.{ReportSoFar, ReportStops, ReportCloses}

-- The last of these lines is the reason to end, or there is no such line.
abbrev pub Reported : Listener → List Piece → Ending → List ℕ → Type 0
Reported listener lines ending text =
    ReportStops listener lines ending text ⊎ ((IsOfLine ending → ⊥) × ReportCloses listener lines ending text)

-- the report of a judge who has heard nothing
abbrev pub judges : Putting JudgedTalk
judges = record {
  put =
      λ t0 lines t text. (listener : Listener) → t0 ≡ opening_judgement listener
      → ReportSoFar listener lines t text;
  says =
      λ t0 lines ending text. (listener : Listener) → t0 ≡ opening_judgement listener
      → Reported listener lines ending text;
  may = λ t. ⊤;
}
