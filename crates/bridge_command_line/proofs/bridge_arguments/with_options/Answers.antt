use Rattle.std.proofs.lemmas.Result.{IfOk-weaker}
use Rattle.bridge_command_line.proofs.Chain.{after_policy}
use Rattle.bridge_command_line.specs.BridgeCommand.{bare_bridge}
use Rattle.bridge_command_line.proofs.bridge_arguments.with_options.Goals as goal

pub returns : goal.returns
returns c = IfOk-weaker c.with_arg.result _ _ (λ x h. after_policy _ _ _ bare_bridge _ _ h c.in_ok-command.ensures c.bare_command.ensures c.log_file.ensures.rule) c.with_arg.ensures
