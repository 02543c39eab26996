use Rattle.std.proofs.Common.{IfSome, sym, ap, ◌∙◌, subst, Option, ◌-◌, length, take, drop}
use Rattle.policy_rules.specs.declared.setting_rules.settings.Settings.{Settings}
use Rattle.policy_rules.specs.declared.setting_rules.table.Choice.{Choice}
use Rattle.policy_rules.specs.SettingRules.Table.{IsWithinRange, range_of_setting}
use Rattle.policy_rules.specs.SettingRules.Words.{name_in}
use Rattle.replay_commands_on_core.specs.Commands.{argument_bytes}
use Rattle.replay_commands_on_core.specs.Words.{settings_after, settings_of}
use Rattle.replay_commands_on_core.proofs.Chosen.{at_bad, at_next}
use Rattle.replay_commands_on_core.proofs.settings.read_settings.Goals as goal

pub returns-in_err-read_choice-clause-value : goal.returns-in_err-read_choice-clause-value
returns-in_err-read_choice-clause-value c =
    c.from_residual.ensures
    ∙ at_bad c.loop-rest.settings c.loop-rest.rest.now c.word-item.result _ c.in-len1-up.len_at_least c.word-item.is c.loop-rest.invariant.same
    c.as_slice-in-len1-up.result.now c.as_slice-in-len1-up.ensures.value
    (sym c.read_choice.ensures.value ∙ c.in_err-read_choice.was)

pub loop-rest-preserved : goal.loop-rest-preserved
loop-rest-preserved c = record {
  same = ap (λ (s : Settings). settings_after s (argument_bytes (take (length c.loop-rest.rest.now - 1) (drop 1 c.loop-rest.rest.now)))) c.with-settings.ensures.chosen
      ∙ at_next c.loop-rest.settings c.loop-rest.rest.now c.word-item.result (settings_of (argument_bytes c.args.arguments.now)) c.in-len1-up.len_at_least c.word-item.is c.loop-rest.invariant.same
      c.as_slice-in-len1-up.result.now c.name_in.result.now c.in_ok-read_choice.field-0
      c.as_slice-in-len1-up.ensures.value (sym c.read_choice.ensures.value ∙ c.in_ok-read_choice.was)
      (c.name_in.ensures ∙ ap name_in c.as_slice.ensures.value) (sym c.has_name.ensures ∙ c.if-has_name.false);
  proper = c.with-settings.ensures.proper c.loop-rest.invariant.proper
      (subst (λ (x : Option Choice). IfSome x (λ choice. IsWithinRange (range_of_setting choice.setting) choice.value)) c.in_ok-read_choice.was c.read_choice.ensures.within);
}
