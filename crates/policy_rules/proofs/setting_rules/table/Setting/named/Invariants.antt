use Rattle.std.proofs.Common.{◌≡◌, length, map}
use Rattle.std.specs.Str.{bytes_eq}
use Rattle.std.specs.Map.{lookup}
use Rattle.policy_rules.specs.SettingRules.Table.{name_of}
use Rattle.policy_rules.specs.SettingRules.Words.{setting_named}
use Rattle.policy_rules.proofs.setting_rules.table.Setting.named.Given as goal

abbrev pub invariant-loop-rest : goal.invariant-loop-rest
invariant-loop-rest l = lookup (bytes_eq l.name) (map (λ setting. (name_of setting, setting)) l.rest) ≡ setting_named l.name

abbrev pub decreases-loop-rest : goal.decreases-loop-rest
decreases-loop-rest l = length l.rest
