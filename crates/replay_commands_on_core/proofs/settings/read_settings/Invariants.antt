-- The rest of the arguments completes what they gave.
use Rattle.std.proofs.Common.{◌≡◌, length}
use Rattle.policy_rules.specs.SettingRules.Policy.{IsProper}
use Rattle.replay_commands_on_core.specs.Commands.{argument_bytes}
use Rattle.replay_commands_on_core.specs.Words.{settings_after, settings_of}
use Rattle.replay_commands_on_core.proofs.settings.read_settings.Given as goal

abbrev pub invariant-loop-rest : goal.invariant-loop-rest
invariant-loop-rest l = record {
  same : settings_after l.settings (argument_bytes l.rest) ≡ settings_of (argument_bytes l.arguments);
  proper : IsProper l.settings;
}

abbrev pub decreases-loop-rest : goal.decreases-loop-rest
decreases-loop-rest l = length l.rest
