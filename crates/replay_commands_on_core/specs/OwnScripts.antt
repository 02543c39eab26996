-- The behaviour of the commands `judge` and `migrate` on the script of a lawful session.
use Rattle.std.specs.Prelude.{◌≡◌, ◌⊎◌, ℕ, ◌^◌, ◌<◌, List, ◌++◌, length, Some}
use Rattle.std.specs.Io.KnownBytes.{Appends}
use Rattle.line_io.specs.Lines.{items}
use Rattle.line_io.specs.declared.limits.TheConstants.{SCRIPT_LINE}
use Rattle.policy_rules.specs.declared.setting_rules.settings.Settings.{Settings}
use Rattle.adapter_core.specs.Trace.{Step, LawfulTrace}
use Rattle.trace_scripts.specs.OneWay.{IsOpened}
use Rattle.trace_scripts.specs.Script.{script1, script2}
use Rattle.replay_command_base.specs.Streams.{FilterStreams, HasNoFault}
use Rattle.session_judge.specs.declared.listener.Listener.{Listener}
use Rattle.judge_report.specs.Reports.{report}
use Rattle.judge_report.specs.Texts.{lawful_line, search_report}
use Rattle.script_replay.specs.Versions.{Version, script_by, settings_by}
use Rattle.replay_commands_on_core.specs.Replayed.{IsProperIn}

-- JUDGING

-- the lines of the searches in a script, one for each `go`
abbrev pub searches : Listener → List ℕ → List ℕ
searches listener script =
    (report listener (items SCRIPT_LINE script)).text
    ++ search_report (report listener (items SCRIPT_LINE script)).talk.search

-- The output took the lines of the script's searches, and after them `lawful
-- talk`: no order crosses.
abbrev pub OwnScriptFoundLawful : Listener → List ℕ → FilterStreams → FilterStreams → Type 0
OwnScriptFoundLawful listener script before after =
    Appends before.output.taken after.output.taken (searches listener script ++ lawful_line)

-- The meaning of each status for a script.
pub record NoFaultFound (listener : Listener) (script : List ℕ) (before after : FilterStreams)
    (code : ℕ) : Type 0 where
  pub lawful : code ≡ 0 → OwnScriptFoundLawful listener script before after
  pub not_unlawful : code ≡ 1 → ⊥
  pub no_line_without_mark : code ≡ 2 → ⊥
  -- it is judged to its end, or there was no memory
  pub complete : length script < 2 ^ 32 → HasNoFault before after → (code ≡ 0) ⊎ (code ≡ 3)

-- No fault is found if the input is the script, of any version, of a lawful trace.
abbrev pub JudgesOwnTalk : Listener → FilterStreams → FilterStreams → ℕ → Type 0
JudgesOwnTalk listener before after code =
    (version : Version) (o : Settings) (trace : List Step) → IsProperIn version
    → LawfulTrace (settings_by version o) trace
    → before.input.left ≡ Some (script_by version trace)
    → NoFaultFound listener (script_by version trace) before after code

-- MIGRATING

-- If the input is the script of version 1 of a lawful trace that has its Open step, the command
-- `migrate` wrote the trace's script of version 2.
abbrev pub MigratesOwnScripts : Settings → FilterStreams → FilterStreams → ℕ → Type 0
MigratesOwnScripts settings before after code =
    (o : Settings) (trace : List Step) → LawfulTrace o trace → IsOpened o trace
    → before.input.left ≡ Some (script1 trace) → code ≡ 0
    → Appends before.output.taken after.output.taken (script2 settings trace)
