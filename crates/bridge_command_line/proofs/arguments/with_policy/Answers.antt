use Rattle.clap.specs.Words.{app_of, with_rule}
use Rattle.bridge_command_line.specs.Arguments.{resign_rule, resign_moves_rule, resign_score_rule, show_ponder_rule}
use Rattle.bridge_command_line.proofs.Chain.{first_chained, next_chained}
use Rattle.bridge_command_line.proofs.arguments.with_policy.Goals as goal

pub returns : goal.returns
returns c =
    let after_1 = with_rule (app_of c.args.command) resign_rule in
    let after_2 = with_rule after_1 resign_moves_rule in
    let after_3 = with_rule after_2 resign_score_rule in
    let one = first_chained c.with_arg-command.result (app_of c.args.command) _ resign_rule c.resign.ensures.rule c.with_arg-command.ensures in
    let two = next_chained c.with_arg-command.result c.and_arg-command.result after_1 _ resign_moves_rule c.resign_moves.ensures.rule one c.and_arg-command.ensures in
    let three = next_chained c.and_arg-command.result c.and_arg-command-2.result after_2 _ resign_score_rule c.resign_score.ensures.rule two c.and_arg-command-2.ensures in
    next_chained c.and_arg-command-2.result c.and_arg.result after_3 _ show_ponder_rule c.show_ponder.ensures.rule three c.and_arg.ensures
