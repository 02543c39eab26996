use Rattle.std.proofs.Common.{◌≡◌, length}
use Rattle.replay_commands_on_core.specs.Commands.{argument_bytes}
use Rattle.replay_commands_on_core.specs.Words.{has_name}
use Rattle.replay_commands_on_core.proofs.settings.has_name.Given as goal

abbrev pub invariant-loop-rest : goal.invariant-loop-rest
invariant-loop-rest l = has_name l.name (argument_bytes l.rest) ≡ has_name l.name (argument_bytes l.arguments)

abbrev pub decreases-loop-rest : goal.decreases-loop-rest
decreases-loop-rest l = length l.rest
