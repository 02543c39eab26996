use Rattle.std.proofs.Common.{◌≡◌, length}
use Rattle.std.specs.Option.{option_map}
use Rattle.protocol_tokens.specs.Tokens.{tokens}
use Rattle.policy_rules.specs.SettingRules.Policy.{IsProper}
use Rattle.policy_rules.specs.SettingRules.Words.{choices_of, with_choices}
use Rattle.script_lines.specs.Header.{header_settings_in}
use Rattle.script_lines.proofs.header.read_settings.Given as goal

abbrev pub invariant-loop-word : goal.invariant-loop-word
invariant-loop-word l = record {
  proper : IsProper l.settings;
  same : option_map (with_choices l.settings) (choices_of (tokens l.rest)) ≡ header_settings_in (tokens l.words);
}

abbrev pub decreases-loop-word : goal.decreases-loop-word
decreases-loop-word l = length l.rest
