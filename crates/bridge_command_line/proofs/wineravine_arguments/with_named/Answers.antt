use Rattle.std.proofs.Common.{codes}
use Rattle.clap.specs.Words.{app_of, with_rule}
use Rattle.bridge_command_line.specs.Arguments.{log_file_rule}
use Rattle.bridge_command_line.specs.WineravineCommand.{log_dir_rule, set_option_rule, wineravine_engine_rule}
use Rattle.bridge_command_line.proofs.Chain.{first_chained, next_chained}
use Rattle.bridge_command_line.proofs.wineravine_arguments.with_named.Goals as goal

pub returns : goal.returns
returns c =
    let log_rule = log_file_rule (codes "wineravine.log") in
    let after_1 = with_rule (app_of c.args.command) log_rule in
    let after_2 = with_rule after_1 log_dir_rule in
    let after_3 = with_rule after_2 set_option_rule in
    let one = first_chained c.with_arg-command.result (app_of c.args.command) _ log_rule c.log_file.ensures.rule c.with_arg-command.ensures in
    let two = next_chained c.with_arg-command.result c.and_arg-command.result after_1 _ log_dir_rule c.log_dir.ensures.rule one c.and_arg-command.ensures in
    let three = next_chained c.and_arg-command.result c.and_arg-command-2.result after_2 _ set_option_rule c.set_option.ensures.rule two c.and_arg-command-2.ensures in
    next_chained c.and_arg-command-2.result c.and_arg.result after_3 _ wineravine_engine_rule c.engine.ensures.rule three c.and_arg.ensures
