-- The command of the program, as clap sees it. It has clap's flags `-h`,
-- `--help`, `-V` and `--version`.
use Rattle.std.specs.Prelude.{true, Some, codes}
use Rattle.clap.specs.Words.{App, Rule, new_app, new_rule, with_rule}
use Rattle.clap.specs.Simple.{on_top}
use Rattle.clap.specs.Lexer.{usize_max}
use Rattle.clap.specs.declared.builder.action.ArgAction.TheVariants.{Append}
use Rattle.clap.specs.declared.builder.value_parser.ValueParser.TheVariants as parsers
use Rattle.policy_rules.specs.declared.setting_rules.settings.TheConstants.{MOST_MARGIN}
use Rattle.bridge_command_line.specs.Arguments.{flag_rule, log_file_rule, option_rule, with_policy_rules}

abbrev pub early_settings_rule : Rule
early_settings_rule = flag_rule (codes "EarlySettings") (codes "true")

abbrev pub resign_when_gone_rule : Rule
resign_when_gone_rule = flag_rule (codes "ResignWhenGone") (codes "true")

abbrev pub handle_draws_rule : Rule
handle_draws_rule = flag_rule (codes "HandleDraws") (codes "true")

abbrev pub show_san_rule : Rule
show_san_rule = flag_rule (codes "ShowSan") (codes "true")

abbrev pub strength_options_rule : Rule
strength_options_rule = flag_rule (codes "StrengthOptions") (codes "true")

abbrev pub fence_stops_rule : Rule
fence_stops_rule = flag_rule (codes "FenceStops") (codes "true")

abbrev pub result_reasons_rule : Rule
result_reasons_rule = flag_rule (codes "ResultReasons") (codes "true")

abbrev pub time_margin_rule : Rule
time_margin_rule =
    record (option_rule (codes "TimeMargin") (codes "20")) {
      parser = Some (parsers.Unsigned 0 MOST_MARGIN);
    }

abbrev pub plain_texts_rule : Rule
plain_texts_rule = flag_rule (codes "PlainTexts") (codes "true")

abbrev pub path_options_rule : Rule
path_options_rule = flag_rule (codes "PathOptions") (codes "true")

abbrev pub repeat_thinking_rule : Rule
repeat_thinking_rule = flag_rule (codes "RepeatThinking") (codes "true")

-- the folder of a new log
abbrev pub log_dir_rule : Rule
log_dir_rule =
    record (new_rule (codes "LogDir")) {
      long = Some (codes "LogDir");
      value_names = 1;
      parser = Some parsers.NonEmptyString;
    }

-- an option of the engine, any number of times
abbrev pub set_option_rule : Rule
set_option_rule =
    record (new_rule (codes "Option")) {
      long = Some (codes "Option");
      action = Some Append;
      value_names = 1;
    }

-- the engine's program, and after it all arguments, whatever these are
abbrev pub wineravine_engine_rule : Rule
wineravine_engine_rule =
    record (new_rule (codes "ENGINE")) {
      required = true;
      action = Some Append;
      range = Some (record { start_inclusive = 1; end_inclusive = usize_max });
      trailing_var_arg = true;
    }

abbrev pub bare_wineravine : App
bare_wineravine =
    on_top (λ s. record s { no_binary_name = true; has_version = true })
    (new_app (codes "wineravine"))

abbrev pub with_new_settings : App → App
with_new_settings a =
    with_rule (with_rule (with_rule (with_rule (with_rule (with_rule (with_rule (with_rule (with_rule
    (with_rule (with_rule a early_settings_rule) resign_when_gone_rule)
    handle_draws_rule) show_san_rule) strength_options_rule) fence_stops_rule)
    result_reasons_rule) time_margin_rule) plain_texts_rule) path_options_rule) repeat_thinking_rule

abbrev pub with_names : App → App
with_names a =
    with_rule (with_rule (with_rule (with_rule a (log_file_rule (codes "wineravine.log"))) log_dir_rule)
    set_option_rule) wineravine_engine_rule

abbrev pub wineravine : App
wineravine = with_names (with_new_settings (with_policy_rules bare_wineravine))
