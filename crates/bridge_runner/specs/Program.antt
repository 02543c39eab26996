-- The behaviour of the program, and the meaning of its status.
use Rattle.std.specs.Prelude.{ℕ, List, codes}
use Rattle.policy_rules.specs.declared.setting_rules.settings.Settings.{Settings}
use Rattle.policy_rules.specs.SettingRules.Policy.{IsProper}
use Rattle.trace_laws.specs.Laws.{HasLaws}
use Rattle.trace_scripts.specs.OneWay.{HasOneSession}
use Rattle.bridge_runner.specs.Bridged.{BridgeLeaves}
use Rattle.bridge_runner.specs.Recorded.{BridgeRunIsWhole}
use Rattle.program_lifecycle.specs.Outside.{Outside}
use Rattle.program_lifecycle.specs.declared.failures.Failures.{Failures}

-- the name of the program, which stands in a diagnostic
abbrev pub program : List ℕ
program = codes "bridge"

-- the result of a bridge that ran with these settings and first lines
pub record BridgeRuns (settings : Settings) (first : List ℕ) (before after : Outside)
    (failures : Failures) : Type 0 where
  pub leaves : BridgeLeaves settings first before after failures
  -- of each lawful trace, so of the one that the bridge made
  pub laws : HasLaws settings
  -- the script that the log took has this one trace, and states the settings
  pub one_session : HasOneSession settings

-- The whole run with settings and first lines that are asked for, in which nothing failed, over a
-- host whose engine says these bytes.
pub record BridgeRunsWhole (Asked : Settings → Type 0) (first bytes : List ℕ)
    (before after : Outside) : Type 0 where
  pub settings : Settings
  pub asked : Asked settings
  pub proper : IsProper settings
  -- the log's bytes are the script of the one trace, whose events are those of both sides' bytes
  pub whole : BridgeRunIsWhole settings first bytes before after

-- the bridge ran with settings and first lines that are asked for
pub record RunsAsAsked (Asked : Settings → Type 0) (first : List ℕ) (before after : Outside)
    (failures : Failures) : Type 0 where
  pub settings : Settings
  pub asked : Asked settings
  pub proper : IsProper settings
  pub runs : BridgeRuns settings first before after failures
