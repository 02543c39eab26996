use Rattle.clap.specs.Words.{app_of, with_rule}
use Rattle.bridge_command_line.proofs.Chain.{first_chained, next_chained}
use Rattle.bridge_command_line.specs.WineravineCommand.{early_settings_rule, resign_when_gone_rule, handle_draws_rule, show_san_rule, strength_options_rule, fence_stops_rule, result_reasons_rule, time_margin_rule, plain_texts_rule, path_options_rule, repeat_thinking_rule}
use Rattle.bridge_command_line.proofs.wineravine_arguments.with_new.Goals as goal

pub returns : goal.returns
returns c =
    let after_1 = with_rule (app_of c.args.command) early_settings_rule in
    let after_2 = with_rule after_1 resign_when_gone_rule in
    let after_3 = with_rule after_2 handle_draws_rule in
    let after_4 = with_rule after_3 show_san_rule in
    let after_5 = with_rule after_4 strength_options_rule in
    let after_6 = with_rule after_5 fence_stops_rule in
    let after_7 = with_rule after_6 result_reasons_rule in
    let after_8 = with_rule after_7 time_margin_rule in
    let after_9 = with_rule after_8 plain_texts_rule in
    let after_10 = with_rule after_9 path_options_rule in
    let one = first_chained c.with_arg-command.result (app_of c.args.command) _ early_settings_rule c.early_settings.ensures.rule c.with_arg-command.ensures in
    let two = next_chained c.with_arg-command.result c.and_arg-command.result after_1 _ resign_when_gone_rule c.resign_when_gone.ensures.rule one c.and_arg-command.ensures in
    let three = next_chained c.and_arg-command.result c.and_arg-command-2.result after_2 _ handle_draws_rule c.handle_draws.ensures.rule two c.and_arg-command-2.ensures in
    let four = next_chained c.and_arg-command-2.result c.and_arg-command-3.result after_3 _ show_san_rule c.show_san.ensures.rule three c.and_arg-command-3.ensures in
    let five = next_chained c.and_arg-command-3.result c.and_arg-command-4.result after_4 _ strength_options_rule c.strength_options.ensures.rule four c.and_arg-command-4.ensures in
    let six = next_chained c.and_arg-command-4.result c.and_arg-command-5.result after_5 _ fence_stops_rule c.fence_stops.ensures.rule five c.and_arg-command-5.ensures in
    let seven = next_chained c.and_arg-command-5.result c.and_arg-command-6.result after_6 _ result_reasons_rule c.result_reasons.ensures.rule six c.and_arg-command-6.ensures in
    let eight = next_chained c.and_arg-command-6.result c.and_arg-command-7.result after_7 _ time_margin_rule c.time_margin.ensures.rule seven c.and_arg-command-7.ensures in
    let nine = next_chained c.and_arg-command-7.result c.and_arg-command-8.result after_8 _ plain_texts_rule c.plain_texts.ensures.rule eight c.and_arg-command-8.ensures in
    let ten = next_chained c.and_arg-command-8.result c.and_arg-command-9.result after_9 _ path_options_rule c.path_options.ensures.rule nine c.and_arg-command-9.ensures in
    next_chained c.and_arg-command-9.result c.and_arg.result after_10 _ repeat_thinking_rule c.repeat_thinking.ensures.rule ten c.and_arg.ensures
