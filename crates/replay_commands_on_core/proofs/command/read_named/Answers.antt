use Rattle.std.proofs.Common.{ap, ◌∙◌, Option}
use Rattle.replay_commands_on_core.specs.declared.command.CommandName.{CommandName}
use Rattle.replay_commands_on_core.specs.Commands.{command_by, argument_bytes}
use Rattle.replay_commands_on_core.proofs.CommandNames.{named_by}
use Rattle.replay_commands_on_core.proofs.command.read_named.Goals as goal

-- src/command.rt:143:1
pub returns-clause-value : goal.returns-clause-value
returns-clause-value c =
    c.read_by.ensures.value
    ∙ ap (λ (name : Option CommandName). command_by name (argument_bytes c.args.arguments.now)) c.named.ensures
    ∙ named_by c.args.name.now (argument_bytes c.args.arguments.now)
