use Rattle.std.proofs.Common.{◌++◌, ap, sym, ◌∙◌}
use Rattle.policy_rules.specs.SettingRules.Table.{later_settings}
use Rattle.script_lines.specs.Header.{unusual_text}
use Rattle.script_lines.proofs.Headers.{third_text}
use Rattle.script_lines.proofs.header.header_text.Goals as goal

pub returns-else-has_usual_rest : goal.returns-else-has_usual_rest
returns-else-has_usual_rest c =
    let s = c.args.settings.now in
    c.put_unusual.ensures
    ∙ ap (λ bs. bs ++ unusual_text s later_settings) c.header_with-text.ensures
    ∙ sym (third_text s (sym c.has_usual_rest.ensures ∙ c.if-has_usual_rest.false))
