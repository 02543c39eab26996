-- The scripts of lawful traces, as logs.
use Rattle.std.specs.Prelude.{◌≡◌, ℕ, List, [], ◌∷◌, ◌++◌}
use Rattle.std.specs.Option.{option_to_list}
use Rattle.line_io.specs.Lines.{parts_by_feed}
use Rattle.policy_rules.specs.declared.setting_rules.settings.Settings.{Settings}
use Rattle.policy_rules.specs.SettingRules.Policy.{IsProper}
use Rattle.script_lines.specs.Marks.{Mark, mark_spelled}
use Rattle.adapter_core.specs.Trace.{Step, LawfulTrace}
use Rattle.trace_scripts.specs.Script.{script1, script2}
use Rattle.session_judge.specs.declared.listener.Listener.{Listener}
use Rattle.session_judge.specs.Clean.{Entry, IsClean}
use Rattle.judge_and_driver_laws.specs.Judge.Logs.{marks_in}

-- the marks that the lines of a text spell; step lines, a header and all other lines are ignored
abbrev pub marks_in_text : List (List ℕ) → List Mark
marks_in_text [] = []
marks_in_text (line ∷ lines) = option_to_list (mark_spelled line) ++ marks_in_text lines

-- the log has the marks of the text
abbrev pub IsLogOf : List ℕ → List Entry → Type 0
IsLogOf text log = marks_in log ≡ marks_in_text (parts_by_feed text)

-- No mark of the script of a lawful trace breaks a rule, in version 1 and in version 2.
abbrev pub Scripts1AreClean : Settings → Type 0
Scripts1AreClean o =
    (listener : Listener) (trace : List Step) (log : List Entry) → LawfulTrace o trace
    → IsLogOf (script1 trace) log
    → IsClean listener log

abbrev pub Scripts2AreClean : Settings → Type 0
Scripts2AreClean o =
    (listener : Listener) (trace : List Step) (log : List Entry) → IsProper o → LawfulTrace o trace
    → IsLogOf (script2 o trace) log → IsClean listener log
