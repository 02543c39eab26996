-- The command of the bridge, as clap sees it.
use Rattle.std.specs.Prelude.{true, Some, codes}
use Rattle.clap.specs.Words.{App, Rule, new_app, new_rule, with_rule}
use Rattle.clap.specs.Simple.{on_top}
use Rattle.clap.specs.Lexer.{usize_max}
use Rattle.clap.specs.declared.builder.action.ArgAction.TheVariants.{Append}
use Rattle.bridge_command_line.specs.Arguments.{log_file_rule, with_policy_rules}

abbrev pub bridge_engine_rule : Rule
bridge_engine_rule = record (new_rule (codes "ENGINE")) { required = true }

-- any number of values, last
abbrev pub arg_rule : Rule
arg_rule =
    record (new_rule (codes "ARG")) {
      action = Some Append;
      range = Some (record { start_inclusive = 0; end_inclusive = usize_max });
    }

abbrev pub bare_bridge : App
bare_bridge =
    on_top (λ s.
    record s { no_binary_name = true; disable_help_flag = true; disable_version_flag = true })
    (new_app (codes "bridge"))

abbrev pub with_all_options : App
with_all_options = with_rule (with_policy_rules bare_bridge) (log_file_rule (codes "adapter.log"))

abbrev pub bridge : App
bridge = with_rule (with_rule with_all_options bridge_engine_rule) arg_rule
