-- The kinds of lines in a script: marks, step lines and headers.
use Rattle.std.specs.Prelude.{◌≡◌, ℕ, ◌<◌, ◌≤◌, ◌^◌, List, length, false}
use Rattle.line_io.specs.Event.{has_feed}
use Rattle.policy_rules.specs.declared.setting_rules.settings.Settings.{Settings}
use Rattle.policy_rules.specs.SettingRules.Policy.{IsProper}
use Rattle.script_lines.specs.Header.{SpellsHeader, header_text}
use Rattle.script_lines.specs.Marks.{SpellsNone}
use Rattle.script_lines.specs.StepLine.{SpellsStep, step_number_line}
use Rattle.line_io.specs.declared.limits.TheConstants.{SCRIPT_LINE}

-- The line is spelled by one of the three grammars at most.
pub record IsOfOneKind (line : List ℕ) : Type 0 where
  pub header_is_no_mark : (settings : Settings) → SpellsHeader line settings → SpellsNone line
  pub step_line_is_no_mark : (number : ℕ) → SpellsStep line number → SpellsNone line
  pub header_is_no_step_line :
      (settings : Settings) (number : ℕ) → SpellsHeader line settings → SpellsStep line number → ⊥

abbrev pub LinesAreOfOneKind : Type 0
LinesAreOfOneKind = (line : List ℕ) → IsOfOneKind line

-- The text is on one line, short enough for a script.
pub record IsShortLine (text : List ℕ) : Type 0 where
  pub one_line : has_feed text ≡ false
  pub short : length text ≤ SCRIPT_LINE

abbrev pub HeadersAreLines : Type 0
HeadersAreLines = (settings : Settings) → IsProper settings → IsShortLine (header_text settings)

abbrev pub StepLinesAreLines : Type 0
StepLinesAreLines = (number : ℕ) → number < 10 ^ 18 → IsShortLine (step_number_line number)
